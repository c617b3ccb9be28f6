use Rattle.std.proofs.Common.{◌≡◌, ℕ, zero, suc, ◌+◌, ◌-◌, ◌*◌, ◌/◌, ◌%◌, ◌^◌, ◌<◌, ◌≤◌, ◌⊎◌, inl, inr, max, min, true, false, cond, not, ◌&&◌, ◌||◌, nat_eq, nat_lt, List, [], ◌∷◌, ◌++◌, length, bit_and, bit_or, subst, sym, ap, ◌∙◌, refl, arith, w64}
use Rattle.std.specs.Int.{bit_at, bit_not, trailing_zeros}
use Rattle.std.specs.Prelude.{count_ones, filter, Some}
use Rattle.std.specs.Int.Count.{ones, ones_in}
use Rattle.std.proofs.Math.Pow.{pow-lt}
use Rattle.std.proofs.lemmas.Bool.{cases_eq, cases_lt, lt-ltb, le-ltb, le-leb, lt-leb, eq-eqb, ne_eqb}
use Rattle.std.proofs.lemmas.List.{length-append}
use Rattle.std.proofs.lemmas.Nat.{and_mask, mod-pow-add, mod_below, ones_cat, or_lt, pow_pos}
use Rattle.std.proofs.Math.Nat.{mod-eq_of_lt}
use Rattle.std.proofs.lemmas.Nat.Bits.{bit_at-lt, bit_at-zero, bit_at_and, bit_at_or, bit_at_not, bit_at_ones, bit_at_ones_above, bit_at_mask_below, bit_at_mask_inside, bit_at_set_same, bit_at_set_other, bit_at_clear_same, bit_at_clear_other, bit_at-trailing_zeros, ones_shl, ones_shr, shr_and_one}
use Rattle.overlay_bits.specs.Lines.{below, has_line, AreLines, IsFirst, lines_before, lines_behind, rank_of, with_line, without_line, lines_between, with_lines, without_lines}
use Rattle.overlay_bits.specs.Below.{and_false, and_true, below_same, below_none, below_filter, below_range, has_below, is_between}
use Rattle.overlay_bits.specs.Laws.{are_where, before_where, where_at, where_with, where_without}
use Rattle.overlay_bits.specs.Kept.{has_bit, lines_of_word, word_back, word_of}

-- What the calls do to the number that a set is kept as, bit by bit.

-- a set that is kept is a set
pub are_kept : (word : ℕ) (lines : List ℕ) → lines_of_word word ≡ lines → AreLines lines
are_kept word lines same = subst AreLines same (are_where (has_bit word))

-- whether a line is a member
pub has_kept : (word : ℕ) (lines : List ℕ) (line : ℕ) → lines_of_word word ≡ lines → line < 64 → has_bit word line ≡ has_line lines line
has_kept word lines line same lt =
    sym ((λ i. has_line (sym same i) line) ∙ has_below (has_bit word) 64 line ∙ (λ i. lt-ltb line 64 lt i && has_bit word line))

pub tested : (word : ℕ) (lines : List ℕ) (line : ℕ) → lines_of_word word ≡ lines → line < 64
    → nat_eq (bit_and (word / 2 ^ line) 1) 1 ≡ has_line lines line
tested word lines line same lt = ap (λ b. nat_eq b 1) (shr_and_one word line) ∙ has_kept word lines line same lt

-- Bits of a union and of a difference.

two : (P : ℕ → Type 0) → P 0 → P 1 → (b : ℕ) → b < 2 → P b
two P none one zero h = none
two P none one (suc zero) h = one
two P none one (suc (suc b)) h = absurd (omega (arith, h))

pub bit_of_or : (a b i : ℕ) → has_bit (bit_or a b) i ≡ (has_bit a i || has_bit b i)
bit_of_or a b i =
    ap (λ n. nat_eq n 1) (bit_at_or a b i)
    ∙ two (λ x. nat_eq (max x (bit_at b i)) 1 ≡ (nat_eq x 1 || has_bit b i))
    (two (λ y. nat_eq (max 0 y) 1 ≡ (false || nat_eq y 1)) refl refl (bit_at b i) (bit_at-lt b i))
    (two (λ y. nat_eq (max 1 y) 1 ≡ (true || nat_eq y 1)) refl refl (bit_at b i) (bit_at-lt b i))
    (bit_at a i) (bit_at-lt a i)

pub bit_of_minus : (a b i : ℕ) → b < 2 ^ 64 → i < 64 → has_bit (bit_and a (bit_not w64 b)) i ≡ (has_bit a i && not (has_bit b i))
bit_of_minus a b i fits lt =
    ap (λ n. nat_eq n 1) (bit_at_and a (bit_not w64 b) i ∙ ap (min (bit_at a i)) (bit_at_not w64 b i fits lt))
    ∙ two (λ x. nat_eq (min x (1 - bit_at b i)) 1 ≡ (nat_eq x 1 && not (has_bit b i)))
    (two (λ y. nat_eq (min 0 (1 - y)) 1 ≡ (false && not (nat_eq y 1))) refl refl (bit_at b i) (bit_at-lt b i))
    (two (λ y. nat_eq (min 1 (1 - y)) 1 ≡ (true && not (nat_eq y 1))) refl refl (bit_at b i) (bit_at-lt b i))
    (bit_at a i) (bit_at-lt a i)

-- of one bit that is set or cleared
pub bit_of_set : (n line i : ℕ) → line < 64 → has_bit (bit_or n (1 * 2 ^ line % 2 ^ 64)) i ≡ (nat_eq line i || has_bit n i)
bit_of_set n line i lt = at (cases_eq i line)
  where
    at : (i ≡ line) ⊎ (i ≡ line → ⊥) → has_bit (bit_or n (1 * 2 ^ line % 2 ^ 64)) i ≡ (nat_eq line i || has_bit n i)
    at (inl same) =
        ap (λ j. has_bit (bit_or n (1 * 2 ^ line % 2 ^ 64)) j) same ∙ ap (λ b. nat_eq b 1) (bit_at_set_same w64 n line lt)
        ∙ (λ j. sym (eq-eqb line i (sym same)) j || has_bit n i)
    at (inr other) =
        ap (λ b. nat_eq b 1) (bit_at_set_other w64 n line lt i other) ∙ (λ j. sym (ne_eqb line i (λ s. other (sym s))) j || has_bit n i)

pub bit_of_clear : (n line i : ℕ) → line < 64 → i < 64
    → has_bit (bit_and n (bit_not w64 (1 * 2 ^ line % 2 ^ 64))) i ≡ (has_bit n i && not (nat_eq line i))
bit_of_clear n line i lt less = at (cases_eq i line)
  where
    at : (i ≡ line) ⊎ (i ≡ line → ⊥) → has_bit (bit_and n (bit_not w64 (1 * 2 ^ line % 2 ^ 64))) i ≡ (has_bit n i && not (nat_eq line i))
    at (inl same) =
        ap (λ j. has_bit (bit_and n (bit_not w64 (1 * 2 ^ line % 2 ^ 64))) j) same ∙ ap (λ b. nat_eq b 1) (bit_at_clear_same w64 n line lt)
        ∙ sym (and_false (has_bit n i)) ∙ (λ j. has_bit n i && not (sym (eq-eqb line i (sym same)) j))
    at (inr other) =
        ap (λ b. nat_eq b 1) (bit_at_clear_other w64 n line lt i less other)
        ∙ sym (and_true (has_bit n i)) ∙ (λ j. has_bit n i && not (sym (ne_eqb line i (λ s. other (sym s))) j))

-- What the calls make of the set.

pub kept_with : (n line : ℕ) (lines : List ℕ) → lines_of_word n ≡ lines → line < 64
    → lines_of_word (bit_or n (1 * 2 ^ line % 2 ^ 64)) ≡ with_line lines line
kept_with n line lines same lt =
    below_same _ (λ i. nat_eq line i || has_bit n i) 64 (λ i less. bit_of_set n line i lt) ∙ where_with (has_bit n) line lt
    ∙ ap (λ xs. with_line xs line) same

pub kept_without : (n line : ℕ) (lines : List ℕ) → lines_of_word n ≡ lines → line < 64
    → lines_of_word (bit_and n (bit_not w64 (1 * 2 ^ line % 2 ^ 64))) ≡ without_line lines line
kept_without n line lines same lt =
    below_same _ (λ i. has_bit n i && not (nat_eq line i)) 64 (λ i less. bit_of_clear n line i lt less)
    ∙ where_without (has_bit n) line lt ∙ ap (λ xs. without_line xs line) same

pub kept_union : (a b : ℕ) (one other : List ℕ) → lines_of_word a ≡ one → lines_of_word b ≡ other
    → lines_of_word (bit_or a b) ≡ with_lines one other
kept_union a b one other here there =
    below_same _ (λ i. has_line one i || has_line other i) 64
    (λ i less. bit_of_or a b i ∙ (λ j. has_kept a one i here less j || has_kept b other i there less j))

pub kept_minus : (a b : ℕ) (one other : List ℕ) → lines_of_word a ≡ one → lines_of_word b ≡ other → b < 2 ^ 64
    → lines_of_word (bit_and a (bit_not w64 b)) ≡ without_lines one other
kept_minus a b one other here there fits =
    below_same _ (λ i. has_bit a i && not (has_line other i)) 64
    (λ i less. bit_of_minus a b i fits less ∙ (λ j. has_bit a i && not (has_kept b other i there less j)))
    ∙ sym (below_filter (λ line. not (has_line other line)) (has_bit a) 64) ∙ ap (filter (λ line. not (has_line other line))) here

-- the lines from one to below another one: a mask that ends, and one that begins
pub bit_of_range : (first end i : ℕ) → first ≤ end → end ≤ 64 → i < 64
    → has_bit (bit_and ((2 ^ 64 - 1) / 2 ^ (64 - end)) ((2 ^ 64 - 1) * 2 ^ first % 2 ^ 64)) i ≡ is_between first end i
bit_of_range first end i le few less =
    ap (λ n. nat_eq n 1) (bit_at_and _ _ i ∙ (λ j. min (bit_at (low j) i) (bit_at (high j) i)))
    ∙ at (cases_lt i first) (cases_lt i end)
  where
    low : (2 ^ 64 - 1) / 2 ^ (64 - end) ≡ 2 ^ end - 1
    low = let e : 64 - (64 - end) ≡ end = omega (arith, few) in ones_shr 64 (64 - end) (omega arith) ∙ ap (λ k. 2 ^ k - 1) e

    high : (2 ^ 64 - 1) * 2 ^ first % 2 ^ 64 ≡ 2 ^ 64 - 2 ^ first
    high = ones_shl 64 first (omega (arith, le, few))

    at : (i < first) ⊎ (first ≤ i) → (i < end) ⊎ (end ≤ i)
        → nat_eq (min (bit_at (2 ^ end - 1) i) (bit_at (2 ^ 64 - 2 ^ first) i)) 1 ≡ is_between first end i
    at (inl before) (inl inside) =
        (λ j. nat_eq (min (bit_at_ones end i inside j) (bit_at_mask_below first 64 i before j)) 1)
        ∙ (λ j. sym (lt-leb first i before) j && nat_lt i end)
    at (inl before) (inr behind) = absurd (omega (arith, before, behind, le))
    at (inr from) (inl inside) =
        (λ j. nat_eq (min (bit_at_ones end i inside j) (bit_at_mask_inside first 64 i from less j)) 1)
        ∙ (λ j. sym (le-leb first i from) j && sym (lt-ltb i end inside) j)
    at (inr from) (inr behind) =
        (λ j. nat_eq (min (bit_at_ones_above end i behind j) (bit_at_mask_inside first 64 i from less j)) 1)
        ∙ (λ j. sym (le-leb first i from) j && sym (le-ltb i end behind) j)

pub kept_range : (first end : ℕ) → first ≤ end → end ≤ 64
    → lines_of_word (bit_and ((2 ^ 64 - 1) / 2 ^ (64 - end)) ((2 ^ 64 - 1) * 2 ^ first % 2 ^ 64)) ≡ lines_between first end
kept_range first end le few =
    let e : first + (end - first) ≡ end = omega (arith, le) in
    below_same _ (is_between first (first + (end - first))) 64
    (λ i less. bit_of_range first end i le few less ∙ ap (λ n. is_between first n i) (sym e))
    ∙ sym (below_range first (end - first) 64 (omega (arith, e, few)))

-- Counts.

none_of_zero : count_ones 0 ≡ 0
unfolding ones ones_in
none_of_zero = refl

one_of_one : count_ones 1 ≡ 1
unfolding ones ones_in
one_of_one = refl

-- as many bits below a place as lines
pub ones_below : (n k : ℕ) → count_ones (n % 2 ^ k) ≡ length (below (has_bit n) k)
unfolding below
ones_below n zero = let e : n % 1 ≡ 0 = omega arith in ap count_ones e ∙ none_of_zero
ones_below n (suc k) =
    let e : 1 + k ≡ suc k = omega arith in
    let cat = ones_cat k (n / 2 ^ k % 2) (n % 2 ^ k) (mod_below n (2 ^ k) (pow_pos k)) in
    ap (λ j. count_ones (n % 2 ^ j)) (sym e) ∙ ap count_ones (mod-pow-add n 1 k) ∙ cat
    ∙ ap (λ x. count_ones (bit_at n k) + x) (ones_below n k)
    ∙ at (bit_at n k) (bit_at-lt n k) ∙ sym (length-append (below (has_bit n) k) (cond (has_bit n k) (k ∷ []) []))
  where
    at : (b : ℕ) → b < 2
        → count_ones b + length (below (has_bit n) k) ≡ length (below (has_bit n) k) + length (cond (nat_eq b 1) (k ∷ []) [])
    at zero h = omega (arith, none_of_zero)
    at (suc zero) h = omega (arith, one_of_one)
    at (suc (suc b)) h = absurd (omega (arith, h))

pub ones_kept : (n : ℕ) (lines : List ℕ) → lines_of_word n ≡ lines → n < 2 ^ 64 → count_ones n ≡ length lines
ones_kept n lines same fits = ap count_ones (sym (mod-eq_of_lt fits)) ∙ ones_below n 64 ∙ ap length same

pub ones_before : (n line : ℕ) (lines : List ℕ) → lines_of_word n ≡ lines → line < 64
    → count_ones (bit_and n (1 * 2 ^ line % 2 ^ 64 - 1)) ≡ rank_of lines line
ones_before n line lines same lt =
    ap (λ m. count_ones (bit_and n (m - 1))) mask ∙ ap count_ones (and_mask n line) ∙ ones_below n line
    ∙ ap length (sym (before_where (has_bit n) line (omega (arith, lt))) ∙ ap (λ xs. lines_before xs line) same)
  where
    mask : 1 * 2 ^ line % 2 ^ 64 ≡ 2 ^ line
    mask = let e : 1 * 2 ^ line ≡ 2 ^ line = omega arith in ap (λ m. m % 2 ^ 64) e ∙ mod-eq_of_lt (pow-lt lt)

-- The first member.

pub first_none : (n : ℕ) (lines : List ℕ) → lines_of_word n ≡ lines → n ≡ 0 → lines ≡ []
first_none n lines same none =
    sym same ∙ below_none (has_bit n) 64 (λ i lt. (λ j. nat_eq (bit_at (none j) i) 1) ∙ ap (λ b. nat_eq b 1) (bit_at-zero i))

pub first_some : (n : ℕ) (lines : List ℕ) → lines_of_word n ≡ lines → 0 < n → n < 2 ^ 64 → IsFirst lines (Some (trailing_zeros w64 n))
first_some n lines same some fits = subst (λ xs. IsFirst xs (Some line)) same (inside, whole ∙ (λ j. line ∷ (sym none j ++ behind)))
  where
    line : ℕ
    line = trailing_zeros w64 n

    inside : line < 64
    inside = (bit_at-trailing_zeros w64 n some fits).0

    behind : List ℕ
    behind = lines_behind (lines_of_word n) line

    is : has_bit n line ≡ true
    is = ap (λ b. nat_eq b 1) (bit_at-trailing_zeros w64 n some fits).1

    none : lines_before (lines_of_word n) line ≡ []
    none =
        before_where (has_bit n) line (omega (arith, inside))
        ∙ below_none (has_bit n) line (λ i lt. ap (λ b. nat_eq b 1) ((bit_at-trailing_zeros w64 n some fits).2 i lt))

    whole : lines_of_word n ≡ line ∷ behind
    whole = where_at (has_bit n) line inside ∙ (λ j. none j ++ (cond (is j) (line ∷ []) [] ++ behind))

-- A number of 64 bits with one more of them is one.

pub set_below : (n line : ℕ) → n < 2 ^ 64 → bit_or n (1 * 2 ^ line % 2 ^ 64) < 2 ^ 64
set_below n line fits = or_lt 64 n (1 * 2 ^ line % 2 ^ 64) fits (mod_below (1 * 2 ^ line) (2 ^ 64) (omega arith))

-- Two sets are equal where their numbers are.

pub word_is : (n : ℕ) (lines : List ℕ) → lines_of_word n ≡ lines → n < 2 ^ 64 → n ≡ word_of lines
word_is n lines same fits = sym (word_back n fits) ∙ ap word_of same
