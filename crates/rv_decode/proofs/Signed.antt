-- Immediates and their two's complements.
use Rattle.std.proofs.Common.{◌≡◌, ℕ, zero, suc, ◌+◌, ◌-◌, ◌*◌, ◌%◌, ◌<◌, ◌≤◌, ◌^◌, ℤ, pos, negsuc, ◌+ℤ◌, ◌-ℤ◌, ◌≤ℤ◌, ◌<ℤ◌, neg_ℤ, inl, inr, ap, sym, ◌∙◌, arith}
use Rattle.std.specs.Prelude.{int_rem, if◌then◌else◌, nat_lt}
use Rattle.std.proofs.Math.Nat.{pow-suc}
use Rattle.std.proofs.Math.Pow.{pow_mono}
use Rattle.std.proofs.lemmas.Int.{ints}
use Rattle.std.proofs.lemmas.Bool.{lt-ltb, le-ltb, cases_lt, cond-true, cond-false}
use Rattle.std.proofs.lemmas.Bool.Decides.{nat_tests}
use Rattle.rv_decode.specs.Encoding.{bits_of}

-- the same words with the powers as variables
abbrev pub extended : ℕ → ℕ → ℕ → ℤ
extended half whole n = if nat_lt n half then pos n else (pos n -ℤ pos whole)

abbrev pub complement : ℕ → ℤ → ℕ
complement whole (pos n) = n
complement whole (negsuc n) = whole - (n + 1)

pub complement-lt : (half whole : ℕ) (z : ℤ) → whole ≡ half + half → neg_ℤ (pos half) ≤ℤ z → z <ℤ pos half → complement whole z < whole
complement-lt half whole (pos n) e low high = omega (arith, ints)
complement-lt half whole (negsuc n) e low high = omega (arith, ints)

pub extended-complement : (half whole : ℕ) (z : ℤ) → whole ≡ half + half → neg_ℤ (pos half) ≤ℤ z → z <ℤ pos half → extended half whole (complement whole z) ≡ z
extended-complement half whole (pos n) e low high = grind (arith, ints, nat_tests)
extended-complement half whole (negsuc n) e low high = grind (arith, ints, nat_tests)

pub complement-extended : (half whole n : ℕ) → whole ≡ half + half → n < whole → complement whole (extended half whole n) ≡ n
complement-extended half whole n e fits =
    elim (cases_lt n half) [
      | inl low ↦ ap (complement whole) (cond-true _ (pos n) (pos n -ℤ pos whole) (lt-ltb n half low))
      | inr high ↦
          let negative : pos n -ℤ pos whole ≡ negsuc (whole - (n + 1)) = omega (arith, ints) in
          ap (complement whole) (cond-false _ (pos n) (pos n -ℤ pos whole) (le-ltb n half high) ∙ negative) ∙ (let back : whole - (whole - (n + 1) + 1) ≡ n = omega arith in back)
    ]

pub even-complement : (k : ℕ) (z : ℤ) → int_rem z (pos 2) ≡ pos 0 → complement (2 * k) z % 2 ≡ 0
even-complement k (pos n) even = let h : n % 2 ≡ 0 = omega (arith, ints, even) in h
even-complement k (negsuc n) even = let h : suc n % 2 ≡ 0 = omega (arith, ints, even) in omega arith

pub multiple-complement : (k : ℕ) (z : ℤ) → int_rem z (pos 4096) ≡ pos 0 → complement (4096 * k) z % 4096 ≡ 0
multiple-complement k (pos n) even = let h : n % 4096 ≡ 0 = omega (arith, ints, even) in h
multiple-complement k (negsuc n) even = let h : suc n % 4096 ≡ 0 = omega (arith, ints, even) in omega arith

pub pow_double : (k : ℕ) → 0 < k → 2 ^ k ≡ 2 ^ (k - 1) + 2 ^ (k - 1)
pow_double zero low = absurd (omega (arith, low))
pow_double (suc k) low =
    let half : suc k - 1 ≡ k = omega arith in
    pow-suc 2 k ∙ (let twice : 2 ^ k * 2 ≡ 2 ^ k + 2 ^ k = omega arith in twice) ∙ sym (ap (λ j. 2 ^ j + 2 ^ j) half)

pub pow_within : (k : ℕ) → k ≤ 32 → 2 ^ k ≤ 2 ^ 32
pow_within k high = pow_mono high

-- the complement of a negative number
pub bits_of-negative : (count : ℕ) (z : ℤ) (n : ℕ) → z <ℤ pos 0 → pos n ≡ z +ℤ pos (2 ^ count) → n ≡ bits_of count z
bits_of-negative count (pos k) n below e = absurd (omega (arith, ints, below))
bits_of-negative count (negsuc k) n below e = omega (arith, ints, e)

-- what is extended has a sign in its range
pub extended-range : (half whole n : ℕ) → whole ≡ half + half → n < whole → (neg_ℤ (pos half) ≤ℤ extended half whole n) × (extended half whole n <ℤ pos half)
extended-range half whole n e fits =
    elim (cases_lt n half) [
      | inl low ↦
          let is : extended half whole n ≡ pos n = cond-true _ (pos n) (pos n -ℤ pos whole) (lt-ltb n half low) in
          (omega (arith, ints, is), omega (arith, ints, is))
      | inr high ↦
          let is : extended half whole n ≡ pos n -ℤ pos whole = cond-false _ (pos n) (pos n -ℤ pos whole) (le-ltb n half high) in
          (omega (arith, ints, is), omega (arith, ints, is))
    ]

-- a multiple stays one
rem-multiple : (z : ℤ) (n k : ℕ) → z ≡ negsuc n → suc n % k ≡ 0 → int_rem z (pos k) ≡ pos 0
rem-multiple z n k is even = ap (λ x. int_rem x (pos k)) is ∙ ap (λ r. neg_ℤ (pos r)) even

pub extended-even : (k n : ℕ) → n < 2 * k → n % 2 ≡ 0 → int_rem (extended k (2 * k) n) (pos 2) ≡ pos 0
extended-even k n fits even =
    elim (cases_lt n k) [
      | inl low ↦
          let is : extended k (2 * k) n ≡ pos n = cond-true _ (pos n) (pos n -ℤ pos (2 * k)) (lt-ltb n k low) in
          ap (λ x. int_rem x (pos 2)) is ∙ ap pos even
      | inr high ↦
          let is : extended k (2 * k) n ≡ pos n -ℤ pos (2 * k) = cond-false _ (pos n) (pos n -ℤ pos (2 * k)) (le-ltb n k high) in
          let negative : pos n -ℤ pos (2 * k) ≡ negsuc (2 * k - (n + 1)) = omega (arith, ints) in
          rem-multiple _ (2 * k - (n + 1)) 2 (is ∙ negative) (omega arith)
    ]

pub extended-multiple : (half k n : ℕ) → 4096 * k ≡ half + half → n < 4096 * k → n % 4096 ≡ 0 → int_rem (extended half (4096 * k) n) (pos 4096) ≡ pos 0
extended-multiple half k n e fits even =
    elim (cases_lt n half) [
      | inl low ↦
          let is : extended half (4096 * k) n ≡ pos n = cond-true _ (pos n) (pos n -ℤ pos (4096 * k)) (lt-ltb n half low) in
          ap (λ x. int_rem x (pos 4096)) is ∙ ap pos even
      | inr high ↦
          let is : extended half (4096 * k) n ≡ pos n -ℤ pos (4096 * k) = cond-false _ (pos n) (pos n -ℤ pos (4096 * k)) (le-ltb n half high) in
          let negative : pos n -ℤ pos (4096 * k) ≡ negsuc (4096 * k - (n + 1)) = omega (arith, ints) in
          rem-multiple _ (4096 * k - (n + 1)) 4096 (is ∙ negative) (omega arith)
    ]
