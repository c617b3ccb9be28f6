use Rattle.std.proofs.Common.{◌<◌, ℕ}
use Rattle.unit_map.specs.Pieces.{ArePieces, count}
use Rattle.store_compaction.proofs.moves.next_move.Given as goal

abbrev pub invariant-asking : goal.invariant-asking
invariant-asking l = ((k : ℕ) → k < l.order → count k l.map < 2) × (0 < l.order → ArePieces l.map)
