use Rattle.std.specs.Prelude.{ℕ, ◌+◌, ◌<◌, ◌≤◌, List}
use Rattle.unit_map.specs.Pieces.{Piece, ArePieces, count}
use Rattle.unit_map.specs.Changes.{CanMove, Relocates}

-- Moves, one after the other.

-- two free blocks below an order are equal in size
pub record HasPair (ps : List Piece) (order : ℕ) : Type 0 where
  pub size : ℕ
  pub below : size < order
  pub two : 2 ≤ count size ps

-- n moves, whichever, each of which can be made, lead from the pieces of one map to those of another
pub data Moves : ℕ → List Piece → List Piece → Type 0 where
  Still : (ps : List Piece) → Moves 0 ps ps
  Then : (n : ℕ) (old mid new : List Piece) (from to order : ℕ) → CanMove old from to order → Relocates old from to order mid → ArePieces mid → Moves n mid new → Moves (n + 1) old new
