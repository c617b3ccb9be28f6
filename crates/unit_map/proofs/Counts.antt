use Rattle.std.proofs.Common.{◌≡◌, ℕ, zero, suc, ◌+◌, ◌-◌, ◌^◌, ◌<◌, ◌≤◌, Bool, true, false, cond, Some, inl, inr, List, [], ◌∷◌, ◌++◌, length, get_or, ap, ◌∙◌, refl, arith}
use Rattle.std.proofs.lemmas.Bool.{cases_lt}
use Rattle.std.proofs.lemmas.Nat.{pow_pos}
use Rattle.std.specs.Int.{bit_at}
use Rattle.std.proofs.lemmas.Nat.Bits.{bit_at-pow_same}
use Rattle.unit_map.specs.Pieces.{Piece, IsPiece, count, is_free_of, free_units, free_at, taken_at}
use Rattle.unit_map.specs.Changes.{split, HasRoom, IsFull, TakesFrom, Gives}
use Rattle.unit_map.specs.Cells.{code, piece_at, pieces_in, pieces_of, behind, IsTable}
use Rattle.mark_levels.specs.declared.levels.End.TheVariants.{Low, High}
use Rattle.mark_levels.specs.Levels.{HasBit, IsEndBit, LackBit, LackBitIn, LackBits}
use Rattle.unit_map.proofs.Numbers.{twice}
use Rattle.unit_map.proofs.Reading.{from_cells, in_three, one_piece, piece_here}
use Rattle.unit_map.proofs.Tables.{bit_there, block_there, piece_byte, piece_there, there_fits}
use Rattle.unit_map.specs.Laws.{free_append, free_merges}
use Rattle.unit_map.specs.Settled.{count_append, count_none}

-- How many units are free, and how many pieces there are of an order.

free_split : (u o n : ℕ) → free_units (split u o n) + 2 ^ o ≡ 2 ^ (o + n)
free_split u o zero = let same : o ≡ o + zero = omega arith in omega (arith, ap (λ k. 2 ^ k) same)
free_split u o (suc n) =
    let same : o + n + 1 ≡ o + suc n = omega arith in
    omega (arith, free_append (split u o n) (free_at (u + 2 ^ (o + n)) (o + n) ∷ []), free_split u o n, twice (o + n), ap (λ k. 2 ^ k) same)

pub free_takes : (old new : List Piece) (o from u : ℕ) → TakesFrom old o from u new → o ≤ from → free_units new + 2 ^ o ≡ free_units old
free_takes old new o from u g le =
    let same : o + (from - o) ≡ from = omega (arith, le) in
    let parts = split u o (from - o) in
    omega (
      arith,
      ap free_units g.was,
      ap free_units g.now,
      free_append g.front (free_at u from ∷ g.back),
      free_append g.front (parts ++ g.back),
      free_append parts g.back,
      free_split u o (from - o),
      ap (λ k. 2 ^ k) same,
    )

pub free_gives : (old new : List Piece) (u o : ℕ) → Gives old u o new → free_units new ≡ free_units old + 2 ^ o
free_gives old new u o g =
    omega (arith, free_merges (g.front ++ free_at u o ∷ g.back) new g.merges, ap free_units g.was, free_append g.front (taken_at u o ∷ g.back), free_append g.front (free_at u o ∷ g.back))

-- The free blocks of an order, by the bits of the table.

lack_none : (cells : List ℕ) (k : ℕ) (p : Piece) → IsTable cells → bit_at (get_or cells p.unit 0) k ≡ 0 → IsPiece (piece_at p.unit (get_or cells p.unit 0)) p → p.free ≡ true → p.order ≡ k → ⊥
lack_none cells k p is lack h free order =
    let code = (piece_byte cells p is h).1 ∙ ap (λ b. code b p.order) free ∙ ap (code true) order in
    omega (arith, lack, ap (λ c. bit_at c k) code, bit_at-pow_same k)

pub none_free : (cells : List ℕ) (k : ℕ) → IsTable cells → LackBit cells k → (p : Piece) → IsPiece (pieces_of cells) p → p.free ≡ true → p.order ≡ k → ⊥
none_free cells k is none p h = let at = from_cells cells 0 (length cells) p h in lack_none cells k p is (none p.unit) at.2

range_none : (cells : List ℕ) (a n k : ℕ) → IsTable cells → LackBitIn cells k a (a + n) → count k (pieces_in cells a n) ≡ 0
range_none cells a n k is lack = count_none k (pieces_in cells a n) (λ p h. let at = from_cells cells a n p h in lack_none cells k p is (lack p.unit at.0 at.1) at.2)

pub two_none : (cells : List ℕ) (k : ℕ) → IsTable cells → LackBit cells k → count k (pieces_of cells) < 2
two_none cells k is none = omega (arith, range_none cells 0 (length cells) k is (λ x le lt. none x))

pub two_one : (cells : List ℕ) (k x y : ℕ) → IsTable cells → k ≤ 4 → IsEndBit cells k Low (Some x) → IsEndBit cells k High (Some y) → y ≤ x → count k (pieces_of cells) < 2
two_one cells k x y is low first last le =
    let code = bit_there cells x k is low first.0 in
    let at = block_there cells x k true is low code in
    omega (
      arith,
      ap (count k) (in_three cells x (2 ^ k) (there_fits cells x k is at)),
      count_append k (pieces_in cells 0 x) (pieces_in cells x (2 ^ k) ++ behind cells x (2 ^ k)),
      count_append k (pieces_in cells x (2 ^ k)) (behind cells x (2 ^ k)),
      range_none cells 0 x k is (λ z from lt. first.1 z (omega (arith, lt))),
      ap (count k) (one_piece cells x k true low code at.inside),
      one (is_free_of k (free_at x k)),
      range_none cells (x + 2 ^ k) (length cells - (x + 2 ^ k)) k is (λ z from lt. last.1 z (omega (arith, from, le, pow_pos k))),
    )
  where
    one : (b : Bool) → cond b 1 0 + 0 ≤ 1
    one true = omega arith
    one false = omega arith

pub free_there : (cells : List ℕ) (k x : ℕ) → IsTable cells → k ≤ 4 → bit_at (get_or cells x 0) k ≡ 1 → IsPiece (pieces_of cells) (free_at x k)
free_there cells k x is low bit = piece_here cells x k true low (bit_there cells x k is low bit)

-- the least order of which there is a free block, or that there is none
pub least_some : (cells : List ℕ) (order from : ℕ) → IsTable cells → LackBits cells order from → (p : Piece) → IsPiece (pieces_of cells) p → p.free ≡ true → order ≤ p.order → from ≤ p.order
least_some cells order from is lack p h free le = elim (cases_lt p.order from) [ inl lt ↦ absurd (none_free cells p.order is (lack p.order le lt) p h free refl) | inr more ↦ more ]

pub least_none : (cells : List ℕ) (order : ℕ) → IsTable cells → LackBits cells order 5 → IsFull (pieces_of cells) order
least_none cells order is lack p h free le = none_free cells p.order is (lack p.order le (omega (arith, (piece_there cells p is h).0))) p h free refl

pub room : (cells : List ℕ) (order from : ℕ) → IsTable cells → order ≤ from → from ≤ 4 → HasBit cells from → HasRoom (pieces_of cells) order
room cells order from is le low has = (free_at has.0 from, (piece_here cells has.0 from true low (bit_there cells has.0 from is low has.1), refl, le))
