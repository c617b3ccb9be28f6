use Rattle.std.proofs.Common.{◌≤◌}
use Rattle.mark_levels.specs.Levels.{LackBits}
use Rattle.mark_levels.proofs.levels.Level.least.Given as goal

abbrev pub invariant-asking : goal.invariant-asking
invariant-asking l = (l.from ≤ l.bit) × LackBits l.self l.from l.bit
