use Rattle.std.proofs.Common.{◌≡◌, ℕ, ◌+◌, ◌*◌, ◌^◌, ◌<◌, ◌%◌, List, [], ◌∷◌, ◌++◌, length, take, drop, get_or, sym, ap, subst, ◌∙◌, arith}
use Rattle.std.proofs.lemmas.Nat.{one_shl}
use Rattle.std.proofs.lemmas.List.{take-append-drop, drop_more, map-append, map_more}
use Rattle.overlay_bits.specs.Kept.{word_of}
use Rattle.overlay_bits.specs.Lines.{Rise}
use Rattle.overlay_bits.specs.Laws.{rise_front}
use Rattle.overlay_bits.specs.Below.{rise_bounds}
use Rattle.delta_image.specs.Line.{Line, numbers_of}
use Rattle.delta_image.specs.VectorLaws.{next_power, word_push, word_rise}

-- A vector that is made line by line.

-- the numbers before a line, its own, and those behind it
numbers_at : (lines : List Line) (i : ℕ) (d : Line) → i < length lines
    → numbers_of lines ≡ numbers_of (take i lines) ++ (get_or lines i d).0 ∷ numbers_of (drop (i + 1) lines)
numbers_at lines i d lt =
    ap numbers_of (sym (take-append-drop i lines) ∙ ap (λ (xs : List Line). take i lines ++ xs) (drop_more lines i d lt))
    ∙ map-append (λ (line : Line). line.0) (take i lines) (get_or lines i d ∷ drop (i + 1) lines)

-- the next bit is that of a line, and fits
pub record IsNextBit (word line : ℕ) : Type 0 where
  pub inside : line < 64
  pub bit : 1 * 2 ^ line % 2 ^ 64 ≡ 2 ^ line
  pub fits : word + 1 * 2 ^ line % 2 ^ 64 < 2 ^ 64

next_of : (front : List ℕ) (line : ℕ) (rest : List ℕ) → Rise 0 (front ++ line ∷ rest) 64 → IsNextBit (word_of front) line
next_of front line rest h =
    let parts = rise_front 0 front line rest 64 h in
    let before = word_rise 0 front line parts.0 in
    let behind = word_rise (line + 1) rest 64 parts.1 in
    let inside : line < 64 = omega (arith, rise_bounds (line + 1) rest 64 parts.1) in
    let bit = one_shl line 64 inside in
    record { inside = inside; bit = bit; fits = omega (arith, before, behind, next_power line, bit) }

pub next_bit : (lines : List Line) (i : ℕ) (d : Line) → Rise 0 (numbers_of lines) 64 → i < length lines
    → IsNextBit (word_of (numbers_of (take i lines))) (get_or lines i d).0
next_bit lines i d rise lt =
    next_of (numbers_of (take i lines)) (get_or lines i d).0 (numbers_of (drop (i + 1) lines))
    (subst (λ xs. Rise 0 xs 64) (numbers_at lines i d lt) rise)

-- with the bit of one more line
pub vector_push : (lines : List Line) (i word : ℕ) (d : Line) → Rise 0 (numbers_of lines) 64 → i < length lines → word ≡ word_of (numbers_of (take i lines))
    → word + 1 * 2 ^ (get_or lines i d).0 % 2 ^ 64 ≡ word_of (numbers_of (take (i + 1) lines))
vector_push lines i word d rise lt so_far =
    let bit = (next_bit lines i d rise lt).bit in
    let more : numbers_of (take (i + 1) lines) ≡ numbers_of (take i lines) ++ (get_or lines i d).0 ∷ [] = map_more (λ (line : Line). line.0) lines i d lt in
    omega (arith, so_far, bit, word_push (numbers_of (take i lines)) (get_or lines i d).0, ap word_of more)
