use Rattle.std.proofs.Common.{◌≡◌, ℕ, ◌+◌, ◌<◌, ◌≤◌, ◌⊎◌, inl, inr, Bool, cond, map, refl, ap, ◌∙◌, arith}
use Rattle.std.specs.Prelude.{nat_lt, slice_index}
use Rattle.std.specs.List.{range_with_len}
use Rattle.std.proofs.lemmas.Bool.{cases_lt, le-ltb, lt-ltb}
use Rattle.std.proofs.lemmas.List.FromFn.{get_or-map-range_with_len}
use Rattle.hex.specs.Hex.{lower_digits}
use Rattle.image_lines.specs.Digits.{digit}

-- What a digit is as a character: 0 to 9, and then a to f.

abbrev written : ℕ → ℕ
written d = cond (nat_lt d 10) (48 + d) (87 + d)

table_is : lower_digits ≡ map written (range_with_len 0 16)
table_is = refl

pub digit_is : (d : ℕ) → d < 16 → digit d ≡ cond (nat_lt d 10) (48 + d) (87 + d)
digit_is d lt = ap (λ ds. slice_index ds d) table_is ∙ get_or-map-range_with_len written 0 16 d d 0 lt (omega arith)

-- Where each lies among the characters.

pub digit_low : (d : ℕ) → d < 10 → digit d ≡ 48 + d
digit_low d lt = digit_is d (omega (arith, lt)) ∙ ap (λ (b : Bool). cond b (48 + d) (87 + d)) (lt-ltb d 10 lt)

pub digit_high : (d : ℕ) → 10 ≤ d → d < 16 → digit d ≡ 87 + d
digit_high d le lt = digit_is d lt ∙ ap (λ (b : Bool). cond b (48 + d) (87 + d)) (le-ltb d 10 le)

-- where a digit lies: from 0 to 9, or from a to f
pub digit_at : (d : ℕ) → d < 16 → ((48 ≤ digit d) × (digit d ≤ 57)) ⊎ ((97 ≤ digit d) × (digit d ≤ 102))
digit_at d lt =
    elim (cases_lt d 10) [
      | inl low ↦ inl (omega (arith, digit_low d low), omega (arith, digit_low d low, low))
      | inr high ↦ inr (omega (arith, digit_high d high lt, high), omega (arith, digit_high d high lt, lt))
    ]

pub digit_ends : (d : ℕ) → d < 16 → (48 ≤ digit d) × (digit d ≤ 102)
digit_ends d lt =
    elim (digit_at d lt) [
      | inl low ↦ (low.0, omega (arith, low.1))
      | inr high ↦ (omega (arith, high.0), high.1)
    ]
