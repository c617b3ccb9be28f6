use Rattle.std.proofs.Common.{◌≡◌, ℕ, zero, suc, ◌+◌, ◌*◌, ◌^◌, ◌%◌, ◌<◌, ◌≤◌, true, inl, List, ◌∷◌, ◌++◌, length, get_or, sym, ap, ◌∙◌, refl, arith}
use Rattle.unit_map.specs.Pieces.{free_at, free_frames, free_units}
use Rattle.unit_map.specs.Cells.{code, pieces_in, pieces_of, AreInside, IsTable}
use Rattle.unit_map.proofs.Reading.{in_two, one_piece}

-- A map is made: one free frame after the other.

-- the first frames are free, and nothing starts elsewhere
pub record IsMade (frames n : ℕ) (cells : List ℕ) : Type 0 where
  pub units : length cells ≡ 16 * frames
  pub free : (f : ℕ) → f < n → get_or cells (16 * f) 0 ≡ code true 4
  pub rest : (x : ℕ) → (x % 16 ≡ 0 → x < 16 * n → ⊥) → get_or cells x 0 ≡ 0

frame_inside : (frames n f : ℕ) (cells : List ℕ) → IsMade frames n cells → AreInside cells (16 * f + 1) (16 * f + 2 ^ 4)
frame_inside frames n f cells made x low high = made.rest x (λ a b. omega (arith, a, low, high))

frames_are : (frames n : ℕ) (cells : List ℕ) → IsMade frames n cells → (m f : ℕ) → f + m ≤ n → pieces_in cells (16 * f) (16 * m) ≡ free_frames (16 * f) m
unfolding pieces_in
frames_are frames n cells made zero f le = refl
frames_are frames n cells made (suc m) f le =
    let all : 16 * suc m ≡ 16 + 16 * m = omega arith in
    let next : 16 * f + 16 ≡ 16 * (f + 1) = omega arith in
    ap (pieces_in cells (16 * f)) all ∙ in_two cells (16 * f) 16 (16 * m)
    ∙ ap (λ ps. ps ++ pieces_in cells (16 * f + 16) (16 * m)) (one_piece cells (16 * f) 4 true (omega arith) (made.free f (omega (arith, le))) (frame_inside frames n f cells made))
    ∙ ap (λ u. free_at (16 * f) 4 ∷ pieces_in cells u (16 * m)) next
    ∙ ap (λ ps. free_at (16 * f) 4 ∷ ps) (frames_are frames n cells made m (f + 1) (omega (arith, le)))
    ∙ ap (λ u. free_at (16 * f) 4 ∷ free_frames u m) (sym next)

pub made_table : (frames : ℕ) (cells : List ℕ) → frames ≤ 65536 → IsMade frames frames cells → IsTable cells
made_table frames cells few made = record {
  whole = omega (arith, made.units);
  few = omega (arith, made.units, few);
  tiled = λ f lt. inl (true, made.free f (omega (arith, lt, made.units)), frame_inside frames frames f cells made);
}

pub made_pieces : (frames : ℕ) (cells : List ℕ) → IsMade frames frames cells → pieces_of cells ≡ free_frames 0 frames
made_pieces frames cells made = ap (pieces_in cells 0) made.units ∙ frames_are frames frames cells made frames 0 (omega arith)

pub free_frames_units : (u n : ℕ) → free_units (free_frames u n) ≡ 16 * n
free_frames_units u zero = refl
free_frames_units u (suc n) = omega (arith, free_frames_units (u + 16) n)
