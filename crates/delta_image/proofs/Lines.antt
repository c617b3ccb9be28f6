use Rattle.std.proofs.Common.{◌≡◌, ℕ, ◌+◌, ◌*◌, ◌%◌, ◌^◌, ◌<◌, ◌≤◌, ◌&&◌, true, cond, List, [], ◌∷◌, ◌++◌, length, take, drop, get_or, bit_and, refl, sym, ap, subst, ◌∙◌, inl, inr, arith, append_assoc, length-append}
use Rattle.std.specs.Prelude.{nat_eq, nat_lt}
use Rattle.std.specs.Int.{bit_at, bit_not, trailing_zeros, w64}
use Rattle.std.specs.List.{AllByRecursion}
use Rattle.std.proofs.lemmas.Bool.{cases_order, eq-eqb, le-ltb, lt-ltb, ne_eqb}
use Rattle.std.proofs.lemmas.List.{append-nil, flat_map_more, length-take-le, length-map, map_push, take-append-drop, take_more}
use Rattle.std.proofs.lemmas.Nat.Bits.{bit_at-trailing_zeros, bit_at-zero, bit_at_clear_other, bit_at_clear_same}
use Rattle.overlay_bits.specs.Below.{and_false, and_true, below_none, below_same, below_split}
use Rattle.overlay_bits.specs.Kept.{has_bit, lines_of_word}
use Rattle.delta_image.specs.Line.{Line, IsLine, numbers_of}
use Rattle.delta_image.specs.Image.{lines_part}
use Rattle.delta_image.specs.Decoding.{AreLinesOf}
use Rattle.delta_image.specs.LengthLaws.{lines_length}
use Rattle.delta_image.proofs.Lists.{all_push, split_same}

-- The lines of a page, one behind the other.

-- one part is of one list of lines with the same numbers
pub one_lines : (a b : List Line) (r s : List ℕ) → AllByRecursion IsLine a → AllByRecursion IsLine b → numbers_of a ≡ numbers_of b
    → lines_part a ++ r ≡ lines_part b ++ s → (a ≡ b) × (r ≡ s)
one_lines [] [] r s one other numbers e = (refl, e)
one_lines [] (y ∷ ys) r s one other numbers e = absurd cc
one_lines (x ∷ xs) [] r s one other numbers e = absurd cc
one_lines (x ∷ xs) (y ∷ ys) r s one other numbers e =
    let parts = split_same x.1 y.1 (lines_part xs ++ r) (lines_part ys ++ s) (one.0 ∙ sym other.0)
    (sym (append_assoc x.1 (lines_part xs) r) ∙ e ∙ append_assoc y.1 (lines_part ys) s) in
    let first : x.0 ≡ y.0 = cc in
    let others : numbers_of xs ≡ numbers_of ys = cc in
    let rest = one_lines xs ys r s one.1 other.1 others parts.1 in
    (λ i. (first i, parts.0 i) ∷ rest.0 i, rest.1)

-- how long the lines before one are
pub record IsLinesLength (n i : ℕ) (lines : List Line) : Type 0 where
  pub is : n ≡ length (lines_part lines)
  pub small : n ≡ 64 * i
  pub whole : AllByRecursion IsLine lines

pub lines_more : (lines : List Line) (i n m : ℕ) (d : Line) → i < length lines → m ≡ length (get_or lines i d).1 → m ≡ 64
    → IsLinesLength n i (take i lines) → IsLinesLength (n + m) (i + 1) (take (i + 1) lines)
lines_more lines i n m d lt same wide h =
    let next = take_more lines i d lt in
    let part = ap lines_part next ∙ sym (flat_map_more (λ (l : Line). l.1) [] (take i lines) (get_or lines i d)) in
    record {
      is = omega (arith, h.is, same, ap length part, length-append (lines_part (take i lines)) (get_or lines i d).1);
      small = omega (arith, h.small, wide);
      whole = subst (AllByRecursion IsLine) (sym next) (all_push IsLine (take i lines) (get_or lines i d) h.whole (sym same ∙ wide));
    }

-- A vector without its lowest bit.
abbrev pub rest_of : ℕ → ℕ → ℕ
rest_of word line = bit_and word (bit_not w64 (1 * 2 ^ line % 2 ^ 64))

-- which bits are left
others_are : (word line i : ℕ) → line < 64 → ((k : ℕ) → k < line → bit_at word k ≡ 0) → i < 64
    → (has_bit word i && nat_lt line i) ≡ has_bit (rest_of word line) i
others_are word line i inside low lt =
    elim (cases_order i line) [
      | inl is ↦ (λ j. has_bit word i && le-ltb line i (omega (arith, is)) j) ∙ and_false (has_bit word i)
          ∙ sym (ne_eqb _ 1 (λ e. omega (arith, e, bit_at_clear_same w64 word line inside, ap (bit_at (rest_of word line)) is)))
      | inr (inl less) ↦
          let kept = bit_at_clear_other w64 word line inside i lt (λ e. omega (arith, e, less)) in
          (λ j. ne_eqb (bit_at word i) 1 (λ e. omega (arith, e, low i less)) j && nat_lt line i)
          ∙ sym (ne_eqb _ 1 (λ e. omega (arith, e, kept, low i less)))
      | inr (inr more) ↦ (λ j. has_bit word i && lt-ltb line i more j) ∙ and_true (has_bit word i)
          ∙ ap (λ n. nat_eq n 1) (sym (bit_at_clear_other w64 word line inside i lt (λ e. omega (arith, e, more))))
    ]

-- the lines of a vector that isn't zero: that of its lowest bit, and those of the others
pub first_bit : (word line : ℕ) → 0 < word → word < 2 ^ 64 → line ≡ trailing_zeros w64 word
    → (line < 64) × (lines_of_word word ≡ line ∷ lines_of_word (rest_of word line))
first_bit word line some fits same =
    let at = subst (λ z. (z < 64) × (bit_at word z ≡ 1) × ((i : ℕ) → i < z → bit_at word i ≡ 0)) (sym same) (bit_at-trailing_zeros w64 word some fits) in
    let none = below_none (has_bit word) line (λ i lt. ne_eqb (bit_at word i) 1 (λ e. omega (arith, at.2 i lt, e))) in
    let here : has_bit word line ≡ true = eq-eqb (bit_at word line) 1 at.1 in
    let others = below_same (λ i. has_bit word i && nat_lt line i) (has_bit (rest_of word line)) 64 (λ i lt. others_are word line i at.0 at.2 lt) in
    (at.0, below_split (has_bit word) line 64 at.0 ∙ (λ i. none i ++ (cond (here i) (line ∷ []) [] ++ others i)))

-- What is known of the lines that were read, and of the bits that are left.
pub record HaveLines (bytes : List ℕ) (given left : ℕ) (lines : List Line) (rest : List ℕ) : Type 0 where
  pub numbers : numbers_of lines ++ lines_of_word left ≡ lines_of_word given
  pub whole : AllByRecursion IsLine lines
  pub so_far : bytes ≡ lines_part lines ++ rest

pub no_line : (bytes : List ℕ) (given : ℕ) (lines : List Line) → lines ≡ [] → HaveLines bytes given given lines bytes
no_line bytes given lines none =
    subst (λ (ls : List Line). HaveLines bytes given given ls bytes) (sym none) (record { numbers = refl; whole = tt; so_far = refl })

pub read_line : (bytes : List ℕ) (given left line : ℕ) (lines : List Line) (rest own after : List ℕ) → HaveLines bytes given left lines rest
    → lines_of_word left ≡ line ∷ lines_of_word (rest_of left line) → own ≡ take 64 rest → after ≡ drop 64 rest → 64 ≤ length rest
    → HaveLines bytes given (rest_of left line) (lines ++ (line, own) ∷ []) after
read_line bytes given left line lines rest own after have first is behind long =
    let cut : rest ≡ own ++ after = sym (take-append-drop 64 rest) ∙ (λ i. sym is i ++ sym behind i) in
    record {
      numbers = ap (λ ns. ns ++ lines_of_word (rest_of left line)) (map_push (λ (l : Line). l.0) lines (line, own))
          ∙ append_assoc (numbers_of lines) (line ∷ []) (lines_of_word (rest_of left line))
          ∙ ap (λ ns. numbers_of lines ++ ns) (sym first) ∙ have.numbers;
      whole = all_push IsLine lines (line, own) have.whole (ap length is ∙ length-take-le 64 rest long);
      so_far = have.so_far ∙ ap (λ (t : List ℕ). lines_part lines ++ t) cut ∙ sym (append_assoc (lines_part lines) own after)
          ∙ ap (λ (t : List ℕ). t ++ after) (flat_map_more (λ (l : Line). l.1) [] lines (line, own));
    }

pub all_lines : (bytes : List ℕ) (given left : ℕ) (lines : List Line) (rest : List ℕ) → left ≡ 0 → HaveLines bytes given left lines rest
    → AreLinesOf given lines × (bytes ≡ lines_part lines ++ rest)
all_lines bytes given left lines rest ended have =
    let none = ap lines_of_word ended ∙ below_none (has_bit 0) 64 (λ i lt. ne_eqb (bit_at 0 i) 1 (λ e. omega (arith, e, bit_at-zero i))) in
    ((sym (append-nil (numbers_of lines)) ∙ ap (λ ns. numbers_of lines ++ ns) (sym none) ∙ have.numbers, have.whole), have.so_far)

-- a line is given, and too few bytes are left
pub too_short : (bytes : List ℕ) (given left line : ℕ) (lines : List Line) (rest : List ℕ) → HaveLines bytes given left lines rest
    → lines_of_word left ≡ line ∷ lines_of_word (rest_of left line) → length rest < 64
    → (others : List Line) (s : List ℕ) → AreLinesOf given others → bytes ≡ lines_part others ++ s → ⊥
too_short bytes given left line lines rest have first short others s are same =
    omega (
      arith,
      length-map lines (λ (l : Line). l.0),
      length-map others (λ (l : Line). l.0),
      length-append (numbers_of lines) (lines_of_word left),
      ap length have.numbers,
      ap length are.0,
      ap length first,
      lines_length lines have.whole,
      lines_length others are.1,
      ap length have.so_far,
      ap length same,
      length-append (lines_part lines) rest,
      length-append (lines_part others) s,
      short,
    )
