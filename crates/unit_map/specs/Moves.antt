use Rattle.std.specs.Prelude.{◌≡◌, ℕ, ◌+◌, ◌^◌, ◌≤◌, List, length}
use Rattle.unit_map.specs.Pieces.{AreBlocksApart}
use Rattle.unit_map.specs.Changes.{KeepsOutside, MovesInside, OnlyMoves, Relocates}
use Rattle.unit_map.specs.Cells.{pieces_of, IsTable}

-- what fills the range of a block has gone to a free one
pub record IsCarried (old : List ℕ) (from to order : ℕ) (new : List ℕ) : Type 0 where
  pub units : length new ≡ length old
  pub table : IsTable new
  pub within : from + 2 ^ order ≤ length old
  pub apart : AreBlocksApart from order to order
  pub relocates : Relocates (pieces_of old) from to order (pieces_of new)
  pub inside : MovesInside (pieces_of old) from to order (pieces_of new)
  pub outside : KeepsOutside (pieces_of old) from order (pieces_of new)
  pub only : OnlyMoves (pieces_of old) from to order (pieces_of new)
