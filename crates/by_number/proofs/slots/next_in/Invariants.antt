use Rattle.std.proofs.Common.{◌≡◌, ℕ, ◌-◌, ◌≤◌, ◌<◌, length, None}
use Rattle.by_number.specs.Slots.{value_at}
use Rattle.by_number.proofs.slots.next_in.Given as goal

abbrev pub invariant-looking : goal.invariant-looking
invariant-looking g l = (l.from ≤ l.number) × ((q : ℕ) → l.from ≤ q → q < l.number → value_at l.slots.items q ≡ None)

abbrev pub decreases-looking : goal.decreases-looking
decreases-looking g l = length l.slots.items - l.number
