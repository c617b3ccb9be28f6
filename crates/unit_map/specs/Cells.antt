use Rattle.std.specs.Prelude.{◌≡◌, ℕ, zero, suc, ◌+◌, ◌-◌, ◌*◌, ◌/◌, ◌%◌, ◌^◌, ◌<◌, ◌≤◌, Bool, true, false, cond, nat_eq, nat_lt, ◌⊎◌, List, [], ◌∷◌, ◌++◌, length, get_or}
use Rattle.unit_map.specs.Pieces.{Piece, AreTwoHalves, free_at}
use Rattle.unit_map.specs.Changes.{Merges, split}

-- The table: a byte for each unit, which says what starts there.

-- the byte of a block: a free one has the bit of its order, 0 to 4, and a taken one its order above those bits
abbrev pub code : Bool → ℕ → ℕ
code true order = 2 ^ order
code false order = 32 * (order + 1)

-- the order of a block, by its byte
abbrev pub order_of : ℕ → ℕ
order_of byte = cond (nat_eq byte 1) 0 (cond (nat_eq byte 2) 1 (cond (nat_eq byte 4) 2 (cond (nat_eq byte 8) 3 (cond (nat_eq byte 16) 4 (byte / 32 - 1)))))

-- the piece that starts at a unit, by its byte: none at 0
unfoldable pub piece_at : ℕ → ℕ → List Piece
piece_at unit byte = cond (nat_eq byte 0) [] (record { unit = unit; order = order_of byte; free = nat_lt byte 32 } ∷ [])

-- those that start at n units from one on
unfoldable pub pieces_in : List ℕ → ℕ → ℕ → List Piece
pieces_in cells from zero = []
pieces_in cells from (suc n) = piece_at from (get_or cells from 0) ++ pieces_in cells (from + 1) n

-- all of them
abbrev pub pieces_of : List ℕ → List Piece
pieces_of cells = pieces_in cells 0 (length cells)

-- those behind n units from one on
abbrev pub behind : List ℕ → ℕ → ℕ → List Piece
behind cells from n = pieces_in cells (from + n) (length cells - (from + n))

-- all of them, with one free block for those in its range
abbrev pub with_free : List ℕ → ℕ → ℕ → List Piece
with_free cells unit order = pieces_in cells 0 unit ++ free_at unit order ∷ behind cells unit (2 ^ order)

-- no block starts at the units from one to below another one
abbrev pub AreInside : List ℕ → ℕ → ℕ → Type 0
AreInside cells from to = (x : ℕ) → from ≤ x → x < to → get_or cells x 0 ≡ 0

-- Blocks fill the range of a block of an order: one, or those of its two halves, of which not both are one free block.

abbrev pub IsOne : List ℕ → ℕ → ℕ → Type 0
IsOne cells unit order = (free : Bool) × (get_or cells unit 0 ≡ code free order) × AreInside cells (unit + 1) (unit + 2 ^ order)

abbrev pub AreNotFree : List ℕ → ℕ → ℕ → Type 0
AreNotFree cells unit order = get_or cells unit 0 ≡ code true order → get_or cells (unit + 2 ^ order) 0 ≡ code true order → ⊥

unfoldable pub IsTwo : ℕ → List ℕ → ℕ → Type 0
IsTwo zero cells unit = ⊥
IsTwo (suc order) cells unit =
    (IsOne cells unit order ⊎ IsTwo order cells unit) × (IsOne cells (unit + 2 ^ order) order ⊎ IsTwo order cells (unit + 2 ^ order)) × AreNotFree cells unit order

abbrev pub IsTiled : ℕ → List ℕ → ℕ → Type 0
IsTiled order cells unit = IsOne cells unit order ⊎ IsTwo order cells unit

-- they fill each frame of the table
pub record IsTable (cells : List ℕ) : Type 0 where
  pub whole : length cells % 16 ≡ 0
  pub few : length cells ≤ 2 ^ 20
  pub tiled : (frame : ℕ) → 16 * frame < length cells → IsTiled 4 cells (16 * frame)

-- What is done to the table.

-- two tables are equal but for n units from one on
pub record AreSameBut (from n : ℕ) (old new : List ℕ) : Type 0 where
  pub units : length new ≡ length old
  pub before : (x : ℕ) → x < from → get_or new x 0 ≡ get_or old x 0
  pub behind : (x : ℕ) → from + n ≤ x → get_or new x 0 ≡ get_or old x 0

-- a range of the table
pub record IsRange (cells : List ℕ) (unit order : ℕ) : Type 0 where
  pub low : order ≤ 4
  pub fits : unit + 2 ^ order ≤ length cells
  pub few : length cells ≤ 2 ^ 20

-- a free block of the order f has been split as far as the order k: its lowest part, of that order, is done
pub record IsSplit (old new : List ℕ) (unit f order k : ℕ) : Type 0 where
  pub from : order ≤ k
  pub to : k ≤ f
  pub same : AreSameBut unit (2 ^ f) old new
  pub rest : AreInside new (unit + 2 ^ k) (unit + 2 ^ f)
  pub taken : get_or new unit 0 ≡ code false order
  pub free : (x : ℕ) → unit < x → x < unit + 2 ^ k → get_or new x 0 < 32
  pub tiled : IsTiled k new unit
  pub pieces : pieces_in new unit (2 ^ k) ≡ split unit order (k - order)

-- a range is one free block
pub record IsWiped (old : List ℕ) (unit order : ℕ) (new : List ℕ) : Type 0 where
  pub same : AreSameBut unit (2 ^ order) old new
  pub here : get_or new unit 0 ≡ code true order
  pub inside : AreInside new (unit + 1) (unit + 2 ^ order)

-- blocks of an order fill each of the two halves of a range
pub record AreHalves (cells : List ℕ) (unit order : ℕ) : Type 0 where
  pub low : order < 4
  pub aligned : unit % 2 ^ (order + 1) ≡ 0
  pub fits : unit + 2 ^ (order + 1) ≤ length cells
  pub few : length cells ≤ 2 ^ 20
  pub lower : IsTiled order cells unit
  pub upper : IsTiled order cells (unit + 2 ^ order)

-- two free blocks of an order, halves of one, may have become that one
pub record IsMerged (old : List ℕ) (unit order : ℕ) (new : List ℕ) : Type 0 where
  pub units : length new ≡ length old
  pub stays : (x : ℕ) → (get_or new x 0 ≡ get_or old x 0) ⊎ ((get_or old x 0 ≡ code true order) × (get_or new x 0 < 32) × ((x ≡ unit) ⊎ (x ≡ unit + 2 ^ order)))
  pub tiled : IsTiled (order + 1) new unit
  pub merges : Merges (pieces_of old) (pieces_of new)

-- a block lies in a larger one
pub record IsIn (unit order within size : ℕ) : Type 0 where
  pub low : order ≤ size
  pub high : size ≤ 4
  pub aligned : unit % 2 ^ order ≡ 0
  pub outer : within % 2 ^ size ≡ 0
  pub from : within ≤ unit
  pub below : unit < within + 2 ^ size

-- a block of an order stands at a unit, or is the other half of that there
pub record IsBlockOrHalf (cells : List ℕ) (unit order : ℕ) : Type 0 where
  pub low : order ≤ 4
  pub there : unit < length cells
  pub aligned : unit % 2 ^ order ≡ 0
  pub at : ℕ
  pub free : Bool
  pub is : get_or cells at 0 ≡ code free order
  pub place : (at ≡ unit) ⊎ ((order < 4) × AreTwoHalves unit at order)

-- so its range within a larger one can be made a free block
pub record CanClear (cells : List ℕ) (unit order within size : ℕ) : Type 0 where
  pub place : IsIn unit order within size
  pub fits : within + 2 ^ size ≤ length cells
  pub few : length cells ≤ 2 ^ 20
  pub held : IsBlockOrHalf cells unit order
  pub tiled : IsTiled size cells within

-- a byte of the range is none of a taken block then, and one beside it stays, but for free blocks that were merged
abbrev pub IsByteKept : List ℕ → ℕ → ℕ → List ℕ → ℕ → Type 0
IsByteKept old unit order new x =
    (((unit ≤ x) × (x < unit + 2 ^ order)) × (get_or new x 0 < 32))
    ⊎ (((x < unit) ⊎ (unit + 2 ^ order ≤ x)) × ((get_or new x 0 ≡ get_or old x 0) ⊎ ((get_or old x 0 < 32) × (get_or new x 0 < 32) × (get_or old x 0 ≡ code true order → AreTwoHalves unit x order))))

pub record IsCleared (old : List ℕ) (unit order within size : ℕ) (new : List ℕ) : Type 0 where
  pub same : AreSameBut within (2 ^ size) old new
  pub kept : (x : ℕ) → IsByteKept old unit order new x
  pub part : IsTiled order old unit
  pub tiled : IsTiled size new within
  pub merges : Merges (with_free old unit order) (pieces_of new)
