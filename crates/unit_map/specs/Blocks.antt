use Rattle.std.specs.Prelude.{◌≡◌, ℕ, ◌+◌, ◌^◌, ◌<◌, ◌≤◌, List, Option, Some, None}
use Rattle.unit_map.specs.Pieces.{Piece, IsPiece, IsApartFromTaken, count, free_at, free_units, taken_at, units_in}
use Rattle.unit_map.specs.Changes.{TakesBlock}
use Rattle.unit_map.specs.declared.block.Block.{Block}

-- two different free blocks of an order, or that there are fewer than two
abbrev pub AreTwoBlocks : List Piece → ℕ → Option (Block × Block) → Type 0
AreTwoBlocks ps order None = count order ps < 2
AreTwoBlocks ps order (Some both) =
    (2 ≤ count order ps) × (both.0.unit < both.1.unit) × (both.0.order ≡ order) × (both.1.order ≡ order)
    × IsPiece ps (free_at both.0.unit order) × IsPiece ps (free_at both.1.unit order)

-- What holds of the block that was taken.

-- it has this order, and was taken as the system of halves has it
abbrev pub TakesAsked : List Piece → ℕ → List Piece → Block → Type 0
TakesAsked old order new block = (block.order ≡ order) × TakesBlock old order block.unit new

-- it is one of the taken pieces
abbrev pub IsTakenBlock : List Piece → Block → Type 0
IsTakenBlock ps block = IsPiece ps (taken_at block.unit block.order)

-- as many units are free no more
abbrev pub LosesUnits : List Piece → List Piece → Block → Type 0
LosesUnits old new block = free_units new + 2 ^ block.order ≡ free_units old

-- it is inside
abbrev pub IsWithin : List Piece → Block → Type 0
IsWithin ps block = block.unit + 2 ^ block.order ≤ units_in ps

-- it overlaps none that was taken before
abbrev pub OverlapsNone : List Piece → Block → Type 0
OverlapsNone ps block = IsApartFromTaken ps block.unit block.order
