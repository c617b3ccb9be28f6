use Rattle.std.specs.Prelude.{◌≡◌, ℕ, ◌+◌, ◌<◌, ◌≤◌, List, [], ◌∷◌}
use Rattle.unit_map.specs.Pieces.{Piece, count, free_blocks}
use Rattle.unit_map.specs.Changes.{IsFull, CanMove}
use Rattle.store_compaction.specs.Runs.{HasPair, Moves}
use Rattle.store_compaction.specs.declared.moves.Move.{Move}

-- Which move comes next.

-- a move that can be made, of an order of which two blocks are free
abbrev pub IsPairMove : List Piece → Move → Type 0
IsPairMove ps m = CanMove ps m.from m.to m.order × (2 ≤ count m.order ps)

-- the same, of this order
abbrev pub IsPairMoveOf : List Piece → ℕ → Move → Type 0
IsPairMoveOf ps order m = (m.order ≡ order) × CanMove ps m.from m.to m.order × (2 ≤ count m.order ps)

-- a move that can be made, of a lower order, where there is no room for a block of this one
abbrev pub IsRoomMove : List Piece → ℕ → Move → Type 0
IsRoomMove ps order m = IsFull ps order × (m.order < order) × CanMove ps m.from m.to m.order

-- fewer moves can be made than there are free blocks, and after any of them a pair is left where there is no room yet
abbrev pub RunsShort : List Piece → ℕ → Type 0
RunsShort ps order =
    (n : ℕ) (later : List Piece) → Moves n ps later
    → (n < free_blocks ps) × (IsFull later order → HasPair later order)

-- Moves whose orders ascend strictly, from one on and below another one.
abbrev pub Ascend : ℕ → ℕ → List Move → Type 0
Ascend from below [] = from ≤ below
Ascend from below (m ∷ ms) = (from ≤ m.order) × Ascend (m.order + 1) below ms
