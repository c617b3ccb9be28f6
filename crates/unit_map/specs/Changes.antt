use Rattle.std.specs.Prelude.{◌≡◌, ℕ, zero, suc, ◌+◌, ◌-◌, ◌^◌, ◌<◌, ◌≤◌, true, ◌⊎◌, List, [], ◌∷◌, ◌++◌}
use Rattle.unit_map.specs.Pieces.{moved, Piece, IsPiece, units_in, Fills, free_at, taken_at, AreFreeHalves, AreTwoHalves, AreMerged}

-- What a call does to the pieces.

-- a free block is split: the lowest part, of this order, is taken, and the `times` upper halves are free
abbrev pub split : ℕ → ℕ → ℕ → List Piece
split unit order zero = taken_at unit order ∷ []
split unit order (suc times) = split unit order times ++ (free_at (unit + 2 ^ (order + times)) (order + times) ∷ [])

-- a block of this order at this unit is taken out of a free block of the order `from`
pub record TakesFrom (old : List Piece) (order from unit : ℕ) (new : List Piece) : Type 0 where
  pub front : List Piece
  pub back : List Piece
  pub was : old ≡ front ++ free_at unit from ∷ back
  pub now : new ≡ front ++ (split unit order (from - order) ++ back)

-- a block of this order at this unit is taken out of a free block of the least order that is enough
pub record TakesBlock (old : List Piece) (order unit : ℕ) (new : List Piece) : Type 0 where
  pub from : ℕ
  pub takes : TakesFrom old order from unit new
  pub enough : order ≤ from
  pub least : (p : Piece) → IsPiece old p → p.free ≡ true → order ≤ p.order → from ≤ p.order

-- two free halves become one free block
pub record Joins (old new : List Piece) : Type 0 where
  pub front : List Piece
  pub lower : Piece
  pub upper : Piece
  pub back : List Piece
  pub halves : AreFreeHalves lower upper
  pub was : old ≡ front ++ lower ∷ upper ∷ back
  pub now : new ≡ front ++ free_at lower.unit (lower.order + 1) ∷ back

-- any number of times
pub data Merges : List Piece → List Piece → Type 0 where
  Done : (ps : List Piece) → Merges ps ps
  Step : (old mid new : List Piece) → Joins old mid → Merges mid new → Merges old new

-- a taken block becomes free, and free halves are merged
pub record Gives (old : List Piece) (unit order : ℕ) (new : List Piece) : Type 0 where
  pub front : List Piece
  pub back : List Piece
  pub was : old ≡ front ++ taken_at unit order ∷ back
  pub merges : Merges (front ++ free_at unit order ∷ back) new

-- no free block is of this order or above
abbrev pub IsFull : List Piece → ℕ → Type 0
IsFull ps order = (p : Piece) → IsPiece ps p → p.free ≡ true → order ≤ p.order → ⊥

-- some is
abbrev pub HasRoom : List Piece → ℕ → Type 0
HasRoom ps order = (p : Piece) × (IsPiece ps p × (p.free ≡ true) × (order ≤ p.order))

-- the pieces of a range become one free block, and free halves are merged
pub record Clears (old : List Piece) (unit order : ℕ) (part new : List Piece) : Type 0 where
  pub front : List Piece
  pub back : List Piece
  pub was : old ≡ front ++ (part ++ back)
  pub fills : Fills unit part
  pub total : units_in part ≡ 2 ^ order
  pub merges : Merges (front ++ free_at unit order ∷ back) new

-- other pieces stand in place of a free block
pub record Puts (old : List Piece) (unit order : ℕ) (part new : List Piece) : Type 0 where
  pub front : List Piece
  pub back : List Piece
  pub was : old ≡ front ++ free_at unit order ∷ back
  pub now : new ≡ front ++ (part ++ back)

-- the blocks inside the block of an order at `from`, whose other half is free, can go to a free block of that order at `to`
pub record CanMove (ps : List Piece) (from to order : ℕ) : Type 0 where
  pub low : order < 4
  pub other : ℕ
  pub beside : AreTwoHalves from other order
  pub half : IsPiece ps (free_at other order)
  pub there : IsPiece ps (free_at to order)
  pub differ : to ≡ other → ⊥

-- the pieces of one range go to another, which was one free block
pub record Relocates (old : List Piece) (from to order : ℕ) (new : List Piece) : Type 0 where
  pub part : List Piece
  pub mid : List Piece
  pub cleared : Clears old from order part mid
  pub merged : AreMerged mid
  pub put : Puts mid to order (moved from to part) new

-- What becomes of the blocks that are taken.

-- each stays taken
abbrev pub KeepsTaken : List Piece → List Piece → Type 0
KeepsTaken old new = (v k : ℕ) → IsPiece old (taken_at v k) → IsPiece new (taken_at v k)

-- but for that at a unit
abbrev pub KeepsOthers : List Piece → ℕ → List Piece → Type 0
KeepsOthers old unit new = (v k : ℕ) → IsPiece old (taken_at v k) → (v ≡ unit → ⊥) → IsPiece new (taken_at v k)

-- those outside a range stay where they are
abbrev pub KeepsOutside : List Piece → ℕ → ℕ → List Piece → Type 0
KeepsOutside old from order new = (v k : ℕ) → IsPiece old (taken_at v k) → (v < from) ⊎ (from + 2 ^ order ≤ v) → IsPiece new (taken_at v k)

-- those inside go along
abbrev pub MovesInside : List Piece → ℕ → ℕ → ℕ → List Piece → Type 0
MovesInside old from to order new = (v k : ℕ) → IsPiece old (taken_at v k) → from ≤ v → v < from + 2 ^ order → IsPiece new (taken_at (to + (v - from)) k)

-- No other block is taken afterwards

-- but the one that was taken
abbrev pub OnlyTakes : List Piece → ℕ → ℕ → List Piece → Type 0
OnlyTakes old unit order new = (v k : ℕ) → IsPiece new (taken_at v k) → ((v ≡ unit) × (k ≡ order)) ⊎ IsPiece old (taken_at v k)

-- nor the one that was given
abbrev pub OnlyGives : List Piece → ℕ → List Piece → Type 0
OnlyGives old unit new = (v k : ℕ) → IsPiece new (taken_at v k) → (v ≡ unit → ⊥) × IsPiece old (taken_at v k)

-- but those outside a range, and those that went along
abbrev pub OnlyMoves : List Piece → ℕ → ℕ → ℕ → List Piece → Type 0
OnlyMoves old from to order new =
    (v k : ℕ) → IsPiece new (taken_at v k)
    → (((v < from) ⊎ (from + 2 ^ order ≤ v)) × IsPiece old (taken_at v k))
    ⊎ ((w : ℕ) × ((from ≤ w) × (w < from + 2 ^ order) × (v ≡ to + (w - from)) × IsPiece old (taken_at w k)))
