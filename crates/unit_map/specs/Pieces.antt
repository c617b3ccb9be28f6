use Rattle.std.specs.Prelude.{◌≡◌, ℕ, zero, suc, ◌+◌, ◌-◌, ◌*◌, ◌^◌, ◌%◌, ◌<◌, ◌≤◌, Bool, true, false, ◌&&◌, ◌⊎◌, cond, nat_eq, List, [], ◌∷◌}

-- The pieces of a memory, ascending.

-- a block of the map: it covers 2^order units from `unit` on
pub record Piece : Type 0 where
  pub unit : ℕ
  pub order : ℕ
  pub free : Bool

abbrev pub free_at : ℕ → ℕ → Piece
free_at unit order = record { unit = unit; order = order; free = true }

abbrev pub taken_at : ℕ → ℕ → Piece
taken_at unit order = record { unit = unit; order = order; free = false }

-- a piece is one of the pieces
abbrev pub IsPiece : List Piece → Piece → Type 0
IsPiece [] p = ⊥
IsPiece (x ∷ ps) p = (x ≡ p) ⊎ IsPiece ps p

-- the units that the pieces cover
abbrev pub units_in : List Piece → ℕ
units_in [] = 0
units_in (p ∷ ps) = 2 ^ p.order + units_in ps

-- the units of those that are free
abbrev pub free_units : List Piece → ℕ
free_units [] = 0
free_units (p ∷ ps) = cond p.free (2 ^ p.order) 0 + free_units ps

-- how many of the pieces are free
abbrev pub free_blocks : List Piece → ℕ
free_blocks [] = 0
free_blocks (p ∷ ps) = cond p.free 1 0 + free_blocks ps

-- whether a piece is a free one of this order
abbrev pub is_free_of : ℕ → Piece → Bool
is_free_of order p = p.free && nat_eq p.order order

-- how many free pieces there are of an order
abbrev pub count : ℕ → List Piece → ℕ
count order [] = 0
count order (p ∷ ps) = cond (is_free_of order p) 1 0 + count order ps

-- the free units, as a sum by orders
abbrev pub free_by_order : List Piece → ℕ
free_by_order ps = count 0 ps + 2 * count 1 ps + 4 * count 2 ps + 8 * count 3 ps + 16 * count 4 ps

-- no two free pieces below a frame are equal in size
abbrev pub AreSettled : List Piece → Type 0
AreSettled ps = (order : ℕ) → order < 4 → count order ps < 2

-- the same, at most one free piece aside, of an order from one on: of that order there may be two
pub record AreSettledBut (ps : List Piece) (from : ℕ) : Type 0 where
  pub aside : ℕ
  pub high : from ≤ aside
  pub two : aside < 4 → count aside ps < 3
  pub others : (order : ℕ) → order < 4 → (order ≡ aside → ⊥) → count order ps < 2

-- of whatever order it is
abbrev pub CanSettle : List Piece → Type 0
CanSettle ps = AreSettledBut ps 0

-- each piece starts where the one before ended, the first at `unit`
abbrev pub Fills : ℕ → List Piece → Type 0
Fills unit [] = Unit {0}
Fills unit (p ∷ ps) = (p.unit ≡ unit) × Fills (unit + 2 ^ p.order) ps

-- a piece starts at a multiple of its size, which is at most a frame
pub record IsAligned (p : Piece) : Type 0 where
  pub order : p.order ≤ 4
  pub unit : p.unit % 2 ^ p.order ≡ 0

-- two free pieces that are the lower and the upper half of one block
pub record AreFreeHalves (p q : Piece) : Type 0 where
  pub lower : p.free ≡ true
  pub upper : q.free ≡ true
  pub order : p.order < 4
  pub same : q.order ≡ p.order
  pub unit : p.unit % 2 ^ (p.order + 1) ≡ 0
  pub beside : q.unit ≡ p.unit + 2 ^ p.order

-- two blocks of an order are the halves of one block
abbrev pub AreTwoHalves : ℕ → ℕ → ℕ → Type 0
AreTwoHalves u v order = ((u % 2 ^ (order + 1) ≡ 0) × (v ≡ u + 2 ^ order)) ⊎ ((v % 2 ^ (order + 1) ≡ 0) × (u ≡ v + 2 ^ order))

-- two blocks have no unit in common
abbrev pub AreBlocksApart : ℕ → ℕ → ℕ → ℕ → Type 0
AreBlocksApart u k v j = (u + 2 ^ k ≤ v) ⊎ (v + 2 ^ j ≤ u)

-- a block has no unit in common with any that is taken
abbrev pub IsApartFromTaken : List Piece → ℕ → ℕ → Type 0
IsApartFromTaken ps u k = (v j : ℕ) → IsPiece ps (taken_at v j) → AreBlocksApart u k v j

-- no two of the pieces are free halves of one block
abbrev pub AreMerged : List Piece → Type 0
AreMerged ps = (p q : Piece) → IsPiece ps p → IsPiece ps q → AreFreeHalves p q → ⊥

-- what is true of the pieces of every map
pub record ArePieces (ps : List Piece) : Type 0 where
  pub fills : Fills 0 ps
  pub frames : (n : ℕ) × (units_in ps ≡ 16 * n)
  pub few : units_in ps ≤ 2 ^ 20
  pub aligned : (p : Piece) → IsPiece ps p → IsAligned p
  pub merged : AreMerged ps

-- a free block of order 4 for each of the n frames from `unit` on
abbrev pub free_frames : ℕ → ℕ → List Piece
free_frames unit zero = []
free_frames unit (suc n) = free_at unit 4 ∷ free_frames (unit + 16) n

-- pieces that lie elsewhere, by as much as `to` lies from `from`
abbrev pub moved : ℕ → ℕ → List Piece → List Piece
moved from to [] = []
moved from to (p ∷ ps) = record { unit = to + (p.unit - from); order = p.order; free = p.free } ∷ moved from to ps
