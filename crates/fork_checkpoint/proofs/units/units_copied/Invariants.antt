use Rattle.std.proofs.Common.{◌-◌}
use Rattle.sizes.specs.declared.TheConstants.{PAGE_END}
use Rattle.overlay_memory.specs.View.{state_of}
use Rattle.fork_checkpoint.proofs.Sums.{IsSumming}
use Rattle.fork_checkpoint.proofs.units.units_copied.Given as goal

abbrev pub invariant-counting : goal.invariant-counting
invariant-counting l = IsSumming (state_of l.mem) l.space l.kept l.units l.from

abbrev pub decreases-counting : goal.decreases-counting
decreases-counting l = PAGE_END - l.from
