use Rattle.std.proofs.Common.{◌≡◌, ℕ, zero, suc, ◌+◌, ◌-◌, ◌≤◌, ◌⊎◌, inl, inr, true, false, ◌*◌, ◌/◌, ◌%◌, ◌^◌, ◌<◌, Bool, cond, nat_eq, List, [], ◌∷◌, ◌++◌, ap, ◌∙◌, arith, refl, sym}
use Rattle.std.specs.Int.{bit_at}
use Rattle.std.proofs.lemmas.Nat.{mod-pow-add}
use Rattle.std.proofs.lemmas.Bool.{cases_lt}
use Rattle.std.proofs.lemmas.Nat.Bits.{bit_at-lt, bit_at_cat_high, bit_at_cat_low, bit_at_lowest}
use Rattle.std.proofs.Math.Nat.{mod-eq_of_lt, pow-suc}
use Rattle.overlay_bits.specs.Lines.{below, lines_where}

-- How a set is kept: as a number of 64 bits, of which bit i tells whether line i is a member.

-- whether a number has a bit
abbrev pub has_bit : ℕ → ℕ → Bool
has_bit word i = nat_eq (bit_at word i) 1

-- the lines whose bits a number has
abbrev pub lines_of_word : ℕ → List ℕ
lines_of_word word = lines_where (has_bit word)

-- the number that has just these bits
abbrev pub word_of : List ℕ → ℕ
word_of [] = 0
word_of (x ∷ xs) = 2 ^ x + word_of xs

-- The number comes back from the members.

word_append : (xs ys : List ℕ) → word_of (xs ++ ys) ≡ word_of xs + word_of ys
word_append [] ys = omega arith
word_append (x ∷ xs) ys = let rest = word_append xs ys in omega (arith, rest)

word_bit : (b k : ℕ) → b < 2 → word_of (cond (nat_eq b 1) (k ∷ []) []) ≡ b * 2 ^ k
word_bit zero k h = omega arith
word_bit (suc zero) k h = omega arith
word_bit (suc (suc b)) k h = absurd (omega (arith, h))

pub word_below : (word k : ℕ) → word_of (below (has_bit word) k) ≡ word % 2 ^ k
unfolding below
word_below word zero = omega arith
word_below word (suc k) =
    let split : word % 2 ^ (1 + k) ≡ (word / 2 ^ k % 2 ^ 1) * 2 ^ k + word % 2 ^ k = mod-pow-add word 1 k in
    let e : 1 + k ≡ suc k = omega arith in
    let here : word_of (cond (has_bit word k) (k ∷ []) []) ≡ bit_at word k * 2 ^ k = word_bit (bit_at word k) k (bit_at-lt word k) in
    word_append (below (has_bit word) k) (cond (has_bit word k) (k ∷ []) [])
    ∙ omega (arith, word_below word k, here, split, ap (λ j. word % 2 ^ j) e)

pub word_back : (word : ℕ) → word < 2 ^ 64 → word_of (lines_of_word word) ≡ word
word_back word h = word_below word 64 ∙ mod-eq_of_lt h

-- So `==`, which compares the numbers, tells whether two sets are equal.

abbrev binary_digit : Bool → ℕ
binary_digit b = cond b 1 0

word_more : (t : ℕ → Bool) (k : ℕ) → word_of (below t (suc k)) ≡ binary_digit (t k) * 2 ^ k + word_of (below t k)
unfolding below
word_more t k = word_append (below t k) (cond (t k) (k ∷ []) []) ∙ at (t k)
  where
    at : (b : Bool) → word_of (below t k) + word_of (cond b (k ∷ []) []) ≡ binary_digit b * 2 ^ k + word_of (below t k)
    at true = omega arith
    at false = omega arith

word_fits : (t : ℕ → Bool) (k : ℕ) → word_of (below t k) < 2 ^ k
unfolding below
word_fits t zero = omega arith
word_fits t (suc k) = at (t k) (word_fits t k) (word_more t k)
  where
    at : (b : Bool) → word_of (below t k) < 2 ^ k → word_of (below t (suc k)) ≡ binary_digit b * 2 ^ k + word_of (below t k)
        → word_of (below t (suc k)) < 2 ^ suc k
    at true fits is = omega (arith, fits, is, pow-suc 2 k)
    at false fits is = omega (arith, fits, is, pow-suc 2 k)

-- it has just the bits that pass the test
word_bits : (t : ℕ → Bool) (k i : ℕ) → i < k → has_bit (word_of (below t k)) i ≡ t i
word_bits t zero i lt = absurd (omega (arith, lt))
word_bits t (suc k) i lt = ap (λ n. has_bit n i) (word_more t k) ∙ at (cases_lt i k) (word_bits t k i)
  where
    low : (b : Bool) → nat_eq (binary_digit b % 2) 1 ≡ b
    low true = refl
    low false = refl

    at : (i < k) ⊎ (k ≤ i) → (i < k → has_bit (word_of (below t k)) i ≡ t i) → has_bit (binary_digit (t k) * 2 ^ k + word_of (below t k)) i ≡ t i
    at (inl less) rest = ap (λ n. nat_eq n 1) (bit_at_cat_low (binary_digit (t k)) k (word_of (below t k)) i less) ∙ rest less
    at (inr more) rest =
        let here : i ≡ k = omega (arith, more, lt) in
        let none : i - k ≡ 0 = omega (arith, here) in
        ap (λ n. nat_eq n 1) (bit_at_cat_high (binary_digit (t k)) k (word_of (below t k)) i (word_fits t k) more ∙ ap (bit_at (binary_digit (t k))) none
        ∙ bit_at_lowest (binary_digit (t k)))
        ∙ low (t k) ∙ ap t (sym here)
