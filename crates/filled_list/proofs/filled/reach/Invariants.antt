use Rattle.std.proofs.Common.{◌≡◌, ◌-◌, ◌+◌, ◌≤◌, ◌++◌, ℕ, length, replicate}
use Rattle.std.specs.Vec.{vec_capacity}
use Rattle.filled_list.proofs.filled.reach.Given as goal

abbrev pub invariant-reaching : goal.invariant-reaching
invariant-reaching g l =
    ((k : ℕ) × (l.items.items ≡ l.fn.items.items ++ replicate k l.rest) × (k ≤ l.at + 1 - length l.fn.items.items))
    × (vec_capacity l.fn.items ≤ vec_capacity l.items)

abbrev pub decreases-reaching : goal.decreases-reaching
decreases-reaching g l = l.at + 1 - length l.items.items
