use Rattle.std.proofs.Common.{◌≡◌, ℕ, ◌-◌, ◌≤◌, length}
use Rattle.std.specs.Prelude.{max}
use Rattle.by_number.specs.Slots.{slot_at}
use Rattle.by_number.proofs.slots.grow.Given as goal

abbrev pub invariant-growing : goal.invariant-growing
invariant-growing g l =
    ((q : ℕ) → slot_at l.slots.items q ≡ slot_at l.fn.slots.items q) × (length l.slots.items ≤ max (length l.fn.slots.items) l.count)

abbrev pub decreases-growing : goal.decreases-growing
decreases-growing g l = l.count - length l.slots.items
