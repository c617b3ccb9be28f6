use Rattle.std.proofs.Common.{◌≡◌, ◌-◌, ◌+◌, ◌≤◌, ◌<◌, ℕ, length, None}
use Rattle.overlay_mapping_table.specs.Rows.{ring}
use Rattle.overlay_mapping_table.proofs.shifts.end_from.Given as goal

abbrev pub invariant-passing : goal.invariant-passing
invariant-passing l =
    (l.place ≤ l.end) × ((i : ℕ) → l.place ≤ i → i < l.end → ring (length l.slots) l.slots i ≡ None → ⊥)

abbrev pub decreases-passing : goal.decreases-passing
decreases-passing l = l.place + length l.slots - l.end
