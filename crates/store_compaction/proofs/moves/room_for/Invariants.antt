use Rattle.std.proofs.Common.{◌<◌, ◌≤◌, ℕ}
use Rattle.unit_map.specs.Pieces.{count}
use Rattle.store_compaction.proofs.moves.room_for.Given as goal

abbrev pub invariant-asking : goal.invariant-asking
invariant-asking l = (l.below ≤ l.order) × ((k : ℕ) → l.below ≤ k → k < l.order → count k l.map < 2)

abbrev pub decreases-asking : goal.decreases-asking
decreases-asking l = l.below
