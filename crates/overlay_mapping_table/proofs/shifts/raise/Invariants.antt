use Rattle.std.proofs.Common.{◌-◌, ◌≤◌}
use Rattle.overlay_mapping_table.proofs.Moving.{IsShift}
use Rattle.overlay_mapping_table.proofs.shifts.raise.Given as goal

abbrev pub invariant-raising : goal.invariant-raising
invariant-raising l = (l.place ≤ l.hole) × IsShift l.n l.fn.slots l.slots l.hole l.end

abbrev pub decreases-raising : goal.decreases-raising
decreases-raising l = l.hole - l.place
