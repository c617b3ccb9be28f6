use Rattle.std.specs.Prelude.{◌≡◌, ℕ, ◌/◌, ◌%◌, ◌<◌, ◌&&◌, Bool, true, false, nat_le, List, [], ◌∷◌, length, get_or, Option, Some, None}
use Rattle.sizes.specs.declared.TheConstants.{LAST_SPACE}
use Rattle.overlay_bits.specs.Lines.{has_line}
use Rattle.free_numbers.specs.declared.TheConstants.{SET_NUMBERS}

-- Numbers in sets of 64, side by side: number n is that of place n % 64 in set n / 64.

abbrev pub set_at : List (List ℕ) → ℕ → List ℕ
set_at sets at = get_or sets at []

-- whether a number is in its set
abbrev pub is_in : List (List ℕ) → ℕ → Bool
is_in sets number = has_line (set_at sets (number / SET_NUMBERS)) (number % SET_NUMBERS)

-- whether a set has a number
abbrev pub has_member : List ℕ → Bool
has_member [] = false
has_member (x ∷ xs) = true

-- whether a number is one of a space
abbrev pub is_number : ℕ → Bool
is_number n = nat_le 1 n && nat_le n LAST_SPACE

-- The least number from 0 on that passes a test, or that none does.
abbrev pub IsLeast : (ℕ → Bool) → Option ℕ → Type 0
IsLeast test None = (k : ℕ) → test k ≡ false
IsLeast test (Some n) = (test n ≡ true) × ((k : ℕ) → k < n → test k ≡ false)

-- the least number of one of the sets
abbrev pub IsLeastMember : List (List ℕ) → ℕ → ℕ → Type 0
IsLeastMember sets at number =
    (number / SET_NUMBERS ≡ at) × (is_in sets number ≡ true) × ((k : ℕ) → k / SET_NUMBERS ≡ at → k < number → is_in sets k ≡ false)

-- a number was put in or taken out; there are as many sets, and every other number is in its own as before
pub record IsPut (old : List (List ℕ)) (number : ℕ) (put : Bool) (new : List (List ℕ)) : Type 0 where
  pub count : length new ≡ length old
  pub here : is_in new number ≡ put
  pub others : (k : ℕ) → (k ≡ number → ⊥) → is_in new k ≡ is_in old k
  pub sets : (at : ℕ) → (at ≡ number / SET_NUMBERS → ⊥) → set_at new at ≡ set_at old at

-- which of some sets have a number
abbrev pub AreMarks : List (List ℕ) → List (List ℕ) → Type 0
AreMarks sets marks = (at : ℕ) → is_in marks at ≡ has_member (set_at sets at)
