use Rattle.std.proofs.Common.{◌≡◌, ℕ, zero, suc, ◌+◌, ◌-◌, ◌*◌, ◌<◌, ◌≤◌, ◌⊎◌, inl, inr, List, length, get_or, take, drop, ap, sym, ◌∙◌, arith}
use Rattle.std.proofs.lemmas.Bool.{cases_eq, cases_lt}
use Rattle.std.proofs.lemmas.Grind.{same_number_lists}
use Rattle.std.specs.Prelude.{bit_or, bit_xor}
use Rattle.std.proofs.lemmas.Nat.{and_le_l, and_le_r, le_or_l, le_or_r}
use lib.Bits.{xor_add_and}
use Rattle.std.proofs.lemmas.List.{get_or-drop, get_or-take, get_or_past, length-take}
use Rattle.byteorder.specs.Endian.{little_from, little_number}

-- Lines are the same where their words are.

abbrev pub AreBytes : List ℕ → Type 0
AreBytes xs = (i : ℕ) → get_or xs i 0 < 256

-- the first so many bytes are the same
abbrev pub AreSameBelow : ℕ → List ℕ → List ℕ → Type 0
AreSameBelow n xs ys = (i : ℕ) → i < n → get_or xs i 0 ≡ get_or ys i 0

-- bytes that make one number
one_number : (n k : ℕ) (xs ys : List ℕ) → AreBytes xs → AreBytes ys → little_from k n xs ≡ little_from k n ys
    → (i : ℕ) → k ≤ i → i < k + n → get_or xs i 0 ≡ get_or ys i 0
one_number zero k xs ys fit fits same i from below = absurd (omega (arith, from, below))
one_number (suc n) k xs ys fit fits same i from below = elim (cases_eq i k) [
  | inl here ↦ ap (λ j. get_or xs j 0) here ∙ omega (arith, same, fit k, fits k) ∙ sym (ap (λ j. get_or ys j 0) here)
  | inr other ↦ one_number n (suc k) xs ys fit fits (omega (arith, same, fit k, fits k)) i (omega (arith, from, other)) (omega (arith, below))
]

part_at : (at i : ℕ) (xs : List ℕ) → i < 8 → get_or (take (at + 8 - at) (drop at xs)) i 0 ≡ get_or xs (at + i) 0
part_at at i xs low = get_or-take (at + 8 - at) (drop at xs) i 0 (omega (arith, low)) ∙ get_or-drop at xs i 0

part_fits : (at : ℕ) (xs : List ℕ) → AreBytes xs → AreBytes (take (at + 8 - at) (drop at xs))
part_fits at xs fit i = by (cases_lt i 8)
  where
    by : (i < 8) ⊎ (8 ≤ i) → get_or (take (at + 8 - at) (drop at xs)) i 0 < 256
    by (inl low) = omega (arith, part_at at i xs low, fit (at + i))
    by (inr past) =
        omega (arith, get_or_past (take (at + 8 - at) (drop at xs)) i 0 (omega (arith, length-take (at + 8 - at) (drop at xs), past)))

-- one word more is the same
pub more_same : (word : ℕ) (xs ys : List ℕ) → AreBytes xs → AreBytes ys → AreSameBelow (8 * word) xs ys
    → little_number 8 (take (8 * word + 8 - 8 * word) (drop (8 * word) xs)) ≡ little_number 8 (take (8 * word + 8 - 8 * word) (drop (8 * word) ys))
    → AreSameBelow (8 * (word + 1)) xs ys
more_same word xs ys fit fits before same i below = by (cases_lt i (8 * word))
  where
    by : (i < 8 * word) ⊎ (8 * word ≤ i) → get_or xs i 0 ≡ get_or ys i 0
    by (inl low) = before i low
    by (inr more) =
        let at : 8 * word + (i - 8 * word) ≡ i = omega (arith, more) in
        let low : i - 8 * word < 8 = omega (arith, below, more) in
        ap (λ j. get_or xs j 0) (sym at) ∙ sym (part_at (8 * word) (i - 8 * word) xs low)
        ∙ one_number 8 0 (take (8 * word + 8 - 8 * word) (drop (8 * word) xs)) (take (8 * word + 8 - 8 * word) (drop (8 * word) ys)) (part_fits (8 * word) xs fit) (part_fits (8 * word) ys fits) same
        (i - 8 * word)
        (omega arith) low
        ∙ part_at (8 * word) (i - 8 * word) ys low ∙ ap (λ j. get_or ys j 0) at

-- all words are
pub all_same : (xs ys : List ℕ) → length xs ≡ 64 → length ys ≡ 64 → AreSameBelow (8 * 8) xs ys → xs ≡ ys
all_same xs ys long longs same = same_number_lists xs ys (omega (arith, long, longs)) (λ i below. same i (omega (arith, below, long)))

-- nothing is apart of words, and of those before them
pub none_apart : (n x y : ℕ) → bit_or n (bit_xor x y) ≡ 0 → (n ≡ 0) × (x ≡ y)
none_apart n x y none =
    let before = le_or_l n (bit_xor x y) in
    let here = le_or_r n (bit_xor x y) in (
      omega (arith, before, none),
      omega (arith, here, none, xor_add_and x y, and_le_l x y, and_le_r x y),
    )
