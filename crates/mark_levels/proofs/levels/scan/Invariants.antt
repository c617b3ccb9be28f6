use Rattle.std.proofs.Common.{◌+◌, ◌-◌}
use Rattle.mark_levels.specs.Levels.{LackBitIn}
use Rattle.mark_levels.proofs.levels.scan.Given as goal

abbrev pub invariant-rising : goal.invariant-rising
invariant-rising l = LackBitIn l.bytes l.bit l.from l.at

abbrev pub invariant-falling : goal.invariant-falling
invariant-falling l = LackBitIn l.bytes l.bit (l.from + 17 - l.i) (l.from + 16)
