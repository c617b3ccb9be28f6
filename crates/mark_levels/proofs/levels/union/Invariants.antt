use Rattle.std.proofs.Common.{◌≡◌}
use Rattle.mark_levels.specs.Levels.{or_of}
use Rattle.mark_levels.proofs.levels.union.Given as goal

abbrev pub invariant-joining : goal.invariant-joining
invariant-joining l = l.bits ≡ or_of l.bytes l.first l.i
