use Rattle.std.proofs.Common.{◌≡◌, ◌-◌, ◌≤◌, length, replicate}
use Rattle.overlay_memory.specs.Epochs.{nothing_put}
use Rattle.overlay_memory.proofs.epochs.places_alike.Given as goal

abbrev pub invariant-making : goal.invariant-making
invariant-making l = (l.places.items ≡ replicate (length l.places.items) nothing_put) × (length l.places.items ≤ l.count)

abbrev pub decreases-making : goal.decreases-making
decreases-making l = l.count - length l.places.items
