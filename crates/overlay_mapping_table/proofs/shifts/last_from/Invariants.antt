use Rattle.std.proofs.Common.{◌-◌, ◌+◌, ◌<◌, ℕ, length}
use Rattle.overlay_mapping_table.specs.Rows.{HasWay}
use Rattle.overlay_mapping_table.proofs.shifts.last_from.Given as goal

abbrev pub invariant-passing : goal.invariant-passing
invariant-passing l =
    (l.hole < l.next) × ((i : ℕ) → l.hole < i → i < l.next → (v : ℕ) × HasWay (length l.slots) l.slots i (v + 1))

abbrev pub decreases-passing : goal.decreases-passing
decreases-passing l = l.hole + length l.slots - l.next
