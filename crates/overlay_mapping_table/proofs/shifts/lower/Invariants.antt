use Rattle.std.proofs.Common.{◌-◌, ◌≤◌}
use Rattle.overlay_mapping_table.proofs.Moving.{IsShift}
use Rattle.overlay_mapping_table.proofs.shifts.lower.Given as goal

abbrev pub invariant-lowering : goal.invariant-lowering
invariant-lowering l = (l.gap ≤ l.last) × IsShift l.n l.slots l.fn.slots l.fn.hole l.gap

abbrev pub decreases-lowering : goal.decreases-lowering
decreases-lowering l = l.last - l.gap
