use Rattle.std.proofs.Common.{◌+◌, ◌-◌, length}
use Rattle.machine_core.specs.Loading.{AreZeroPages}
use Rattle.machine_core.proofs.load.count_zeros.Given as goal

abbrev pub invariant-passing : goal.invariant-passing
invariant-passing l = AreZeroPages l.pages l.at l.n

abbrev pub decreases-passing : goal.decreases-passing
decreases-passing l = length l.pages - (l.at + l.n)
