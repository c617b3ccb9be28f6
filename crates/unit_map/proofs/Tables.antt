use Rattle.std.proofs.Common.{◌≡◌, ℕ, zero, suc, ◌+◌, ◌*◌, ◌/◌, ◌^◌, ◌%◌, ◌<◌, ◌≤◌, Bool, true, false, ◌⊎◌, inl, inr, List, ◌++◌, length, get_or, sym, ap, subst, ◌∙◌, arith}
use Rattle.std.proofs.lemmas.Bool.{cases_lt, cases_eq}
use Rattle.std.proofs.lemmas.List.{get_or_past}
use Rattle.std.proofs.lemmas.Nat.{pow_pos}
use Rattle.std.proofs.lemmas.Nat.Bits.{bit_at-zero}
use Rattle.std.specs.Int.{bit_at}
use Rattle.unit_map.specs.Pieces.{Piece, IsPiece, IsAligned, AreMerged, ArePieces, AreTwoHalves, Fills, units_in}
use Rattle.unit_map.specs.Cells.{code, piece_at, pieces_in, pieces_of, AreInside, AreSameBut, CanClear, IsBlockOrHalf, IsIn, IsTable, IsTiled, IsTwo}
use Rattle.unit_map.proofs.Codes.{bit_code, code_same, code_some, piece_none, piece_code}
use Rattle.unit_map.proofs.Lists.{fills_append, units_append}
use Rattle.unit_map.proofs.Reading.{cell_there, from_cells, in_two}
use Rattle.unit_map.proofs.Tiles.{IsTile, part_at, split_at, tile_at, tile_of, tiled_fills, tiled_same}

-- What a table tells.

-- the frame of a unit
pub frame_fits : (cells : List ℕ) (x : ℕ) → IsTable cells → x < length cells → 16 * (x / 16) + 2 ^ 4 ≤ length cells
frame_fits cells x is lt = omega (arith, is.whole, lt)

pub frame_tiled : (cells : List ℕ) (x : ℕ) → IsTable cells → x < length cells → IsTiled 4 cells (16 * (x / 16))
frame_tiled cells x is lt = is.tiled (x / 16) (omega (arith, lt))

pub frame_start : (x : ℕ) → 16 * (x / 16) % 2 ^ 4 ≡ 0
frame_start x = omega arith

-- a byte is 0, or it is that of a block in its frame
byte_at : (cells : List ℕ) (x : ℕ) → IsTable cells → (get_or cells x 0 ≡ 0) ⊎ IsTile cells x (16 * (x / 16)) 4
byte_at cells x is = elim (cases_lt x (length cells)) [
  | inr past ↦ inl (get_or_past cells x 0 past)
  | inl lt ↦ tile_at 4 cells (16 * (x / 16)) x (frame_start x) (frame_tiled cells x is lt) (omega arith) (omega arith)
]

-- a block whose byte stands there
pub record IsThere (cells : List ℕ) (x k : ℕ) : Type 0 where
  pub there : x < length cells
  pub aligned : x % 2 ^ k ≡ 0
  pub inside : AreInside cells (x + 1) (x + 2 ^ k)
  pub fits : x + 2 ^ k ≤ 16 * (x / 16) + 2 ^ 4

pub there_fits : (cells : List ℕ) (x k : ℕ) → IsTable cells → IsThere cells x k → x + 2 ^ k ≤ length cells
there_fits cells x k is at = omega (arith, at.fits, frame_fits cells x is at.there)

pub block_there : (cells : List ℕ) (x k : ℕ) (b : Bool) → IsTable cells → k ≤ 4 → get_or cells x 0 ≡ code b k → IsThere cells x k
block_there cells x k b is low e =
    let there = cell_there cells x (code b k) e (code_some b k) in
    let t = tile_of 4 cells (16 * (x / 16)) x k b (omega arith) low (frame_start x) (frame_tiled cells x is there) (omega arith) (omega arith) e in
    record { there = there; aligned = t.2; inside = t.3; fits = t.1 }

-- no taken block stands in its range, if it is free
pub none_taken : (cells : List ℕ) (x k : ℕ) → IsThere cells x k → k ≤ 4 → get_or cells x 0 ≡ code true k → (v i : ℕ) → i ≤ 4 → get_or cells v 0 ≡ code false i → (x ≤ v) × (v < x + 2 ^ k) → ⊥
none_taken cells x k at low free v i less e within = elim (cases_eq v x) [
  | inl same ↦ let b : false ≡ true = (code_same false true i k less low (sym e ∙ ap (λ y. get_or cells y 0) same ∙ free)).0 in cc
  | inr differs ↦ omega (arith, e, at.inside v (omega (arith, within.0, differs)) within.1)
]

-- a piece has its byte
pub piece_byte : (cells : List ℕ) (p : Piece) → IsTable cells → IsPiece (piece_at p.unit (get_or cells p.unit 0)) p → (p.order ≤ 4) × (get_or cells p.unit 0 ≡ code p.free p.order)
piece_byte cells p is h = elim (byte_at cells p.unit is) [
  | inl clear ↦ absurd (subst (λ ps. IsPiece ps p) (ap (piece_at p.unit) clear ∙ piece_none p.unit) h)
  | inr t ↦ elim (subst (λ ps. IsPiece ps p) (ap (piece_at p.unit) t.code ∙ piece_code p.unit t.free t.order t.low) h) [
    | inl e ↦
        let order = ap (λ (q : Piece). q.order) e in
        (omega (arith, t.low, order), t.code ∙ ap (λ b. code b t.order) (ap (λ (q : Piece). q.free) e) ∙ ap (code p.free) order)
    | inr none ↦ absurd none
  ]
]

pub piece_there : (cells : List ℕ) (p : Piece) → IsTable cells → IsPiece (pieces_of cells) p → (p.order ≤ 4) × (get_or cells p.unit 0 ≡ code p.free p.order)
piece_there cells p is h = piece_byte cells p is (from_cells cells 0 (length cells) p h).2

pub piece_block : (cells : List ℕ) (p : Piece) → IsTable cells → IsPiece (pieces_of cells) p → IsThere cells p.unit p.order
piece_block cells p is h = let at = piece_there cells p is h in block_there cells p.unit p.order p.free is at.0 at.1

-- and what is free has its bit, and nothing else
pub bit_there : (cells : List ℕ) (x k : ℕ) → IsTable cells → k ≤ 4 → bit_at (get_or cells x 0) k ≡ 1 → get_or cells x 0 ≡ code true k
bit_there cells x k is low bit = elim (byte_at cells x is) [
  | inl clear ↦ absurd (omega (arith, bit, ap (λ c. bit_at c k) clear, bit_at-zero k))
  | inr t ↦ let e = bit_code t.free t.order k low (sym (ap (λ c. bit_at c k) t.code) ∙ bit) in t.code ∙ ap (λ b. code b t.order) e.0 ∙ ap (code true) e.1
]

-- no two free blocks are halves of one
table_merged : (cells : List ℕ) (v o : ℕ) → IsTable cells → o < 4 → v % 2 ^ (o + 1) ≡ 0 → get_or cells v 0 ≡ code true o → get_or cells (v + 2 ^ o) 0 ≡ code true o → ⊥
unfolding IsTwo
table_merged cells v o is low halved a b =
    let there = cell_there cells v (code true o) a (code_some true o) in
    let place : IsIn v (suc o) (16 * (v / 16)) 4 = record { low = omega (arith, low); high = omega arith; aligned = subst (λ n. v % 2 ^ n ≡ 0) next halved; outer = frame_start v; from = omega arith; below = omega arith } in
    let tiled = part_at 4 cells v (suc o) (16 * (v / 16)) o true place (omega arith) a (frame_tiled cells v is there) in
    (split_at cells v o v o true (omega (arith, low)) (omega arith) (omega arith) (omega (arith, pow_pos (suc o))) a tiled).2 a b
  where
    next : o + 1 ≡ suc o
    next = omega arith

pub beside_merged : (cells : List ℕ) (u v k : ℕ) → IsTable cells → k < 4 → AreTwoHalves u v k → get_or cells u 0 ≡ code true k → get_or cells v 0 ≡ code true k → ⊥
beside_merged cells u v k is low (inl s) a b = table_merged cells u k is low s.0 a (ap (λ x. get_or cells x 0) (sym s.1) ∙ b)
beside_merged cells u v k is low (inr s) a b = table_merged cells v k is low s.0 b (ap (λ x. get_or cells x 0) (sym s.1) ∙ a)

-- the pieces of the first frames
frames_fill : (cells : List ℕ) (n : ℕ) → ((f : ℕ) → f < n → IsTiled 4 cells (16 * f)) → Fills 0 (pieces_in cells 0 (16 * n)) × (units_in (pieces_in cells 0 (16 * n)) ≡ 16 * n)
unfolding pieces_in
frames_fill cells zero tiled = (tt, omega arith)
frames_fill cells (suc n) tiled =
    let rest = frames_fill cells n (λ f lt. tiled f (omega (arith, lt))) in
    let last = tiled_fills 4 cells (16 * n) (omega arith) (tiled n (omega arith)) in
    let ps = pieces_in cells 0 (16 * n) in
    let qs = pieces_in cells (16 * n) 16 in
    let all : 16 * suc n ≡ 16 * n + 16 = omega arith in
    let none : 0 + 16 * n ≡ 16 * n = omega arith in
    let e = ap (pieces_in cells 0) all ∙ in_two cells 0 (16 * n) 16 ∙ ap (λ u. ps ++ pieces_in cells u 16) none in
    let start : 16 * n ≡ 0 + units_in ps = omega (arith, rest.1) in
    (subst (Fills 0) (sym e) (fills_append 0 ps qs rest.0 (subst (λ u. Fills u qs) start last.0)), ap units_in e ∙ omega (arith, units_append ps qs, rest.1, last.1))

pub table_fills : (cells : List ℕ) → IsTable cells → Fills 0 (pieces_of cells) × (units_in (pieces_of cells) ≡ length cells)
table_fills cells is =
    let e : 16 * (length cells / 16) ≡ length cells = omega (arith, is.whole) in
    subst (λ n. Fills 0 (pieces_in cells 0 n) × (units_in (pieces_in cells 0 n) ≡ n)) e (frames_fill cells (length cells / 16) (λ f lt. is.tiled f (omega (arith, lt))))

pub table_pieces : (cells : List ℕ) → IsTable cells → ArePieces (pieces_of cells)
table_pieces cells is = record {
  fills = fills.0;
  frames = (length cells / 16, omega (arith, fills.1, is.whole));
  few = omega (arith, fills.1, is.few);
  aligned = λ p h. aligned p h;
  merged = λ p q hp hq halves. merged p q hp hq halves;
}
  where
    fills : Fills 0 (pieces_of cells) × (units_in (pieces_of cells) ≡ length cells)
    fills = table_fills cells is

    aligned : (p : Piece) → IsPiece (pieces_of cells) p → IsAligned p
    aligned p h = record { order = (piece_there cells p is h).0; unit = (piece_block cells p is h).aligned }

    merged : AreMerged (pieces_of cells)
    merged p q hp hq halves =
        let a = (piece_there cells p is hp).1 ∙ ap (λ b. code b p.order) halves.lower in
        let b = ap (λ x. get_or cells x 0) (sym halves.beside) ∙ (piece_there cells q is hq).1 ∙ ap (λ b. code b q.order) halves.upper ∙ ap (code true) halves.same in
        table_merged cells p.unit p.order is halves.order halves.unit a b

-- A table of which one frame is filled anew.
pub table_next : (old new : List ℕ) (frame : ℕ) → IsTable old → AreSameBut (16 * frame) (2 ^ 4) old new → IsTiled 4 new (16 * frame) → IsTable new
table_next old new frame is same tiled = record {
  whole = omega (arith, is.whole, same.units);
  few = omega (arith, is.few, same.units);
  tiled = λ f lt. elim (cases_eq f frame) [
    | inl e ↦ subst (λ g. IsTiled 4 new (16 * g)) (sym e) tiled
    | inr differs ↦ tiled_same 4 old new (16 * f) (λ x low high. stays f x differs low high) (is.tiled f (omega (arith, lt, same.units)))
  ];
}
  where
    stays : (f x : ℕ) → (f ≡ frame → ⊥) → 16 * f ≤ x → x < 16 * f + 2 ^ 4 → get_or new x 0 ≡ get_or old x 0
    stays f x differs low high = elim (cases_lt x (16 * frame)) [
      | inl lt ↦ same.before x lt
      | inr le ↦ same.behind x (omega (arith, le, low, high, differs))
    ]

-- What is held can be cleared in its frame.
pub can_clear : (cells : List ℕ) (v j : ℕ) → IsTable cells → IsBlockOrHalf cells v j → CanClear cells v j (16 * (v / 16)) 4
can_clear cells v j is held = record {
  place = record { low = held.low; high = omega arith; aligned = held.aligned; outer = frame_start v; from = omega arith; below = omega arith };
  fits = frame_fits cells v is held.there;
  few = is.few;
  held = held;
  tiled = frame_tiled cells v is held.there;
}
