use Rattle.std.proofs.Common.{◌≡◌, ℕ, zero, suc, ◌+◌, ◌-◌, ◌*◌, ◌/◌, ◌%◌, ◌^◌, ◌<◌, ◌≤◌, Bool, true, ◌&&◌, T, eqb, eqb→eq, List, [], ◌∷◌, ◌++◌, slice_index, flat_map, refl, sym, ap, ◌∙◌, inl, inr, arith, eq-zero-or-pos, append_assoc, append-nil, w32, w64}
use Rattle.std.specs.Int.{to_be_bytes, byte_at, bytes_high_first}
use Rattle.std.proofs.Math.Nat.{div-div-eq-div-mul, pow-succ'}
use Rattle.std.proofs.lemmas.Fmt.{decimal_digit, decimal_step}
use lib.Ieee.Fits.{and_l, and_r}
use Rattle.report_text.specs.declared.push.TheConstants.{DIGITS_OF_BYTES}
use Rattle.report_text.specs.Digits.{hex_digit, hex_places, in_decimal}
use Rattle.report_text.proofs.Places.{decimal_is}

-- The digits of bytes, and those of words by their bytes.

-- The table has the two digits of each byte, which is computed for each of them.
abbrev are_digits : ℕ → Bool
are_digits zero = true
are_digits (suc b) =
    (eqb (slice_index DIGITS_OF_BYTES (2 * b)) (hex_digit (b / 16)) && eqb (slice_index DIGITS_OF_BYTES (2 * b + 1)) (hex_digit (b % 16))) && are_digits b

below : (n b : ℕ) → T (are_digits n) → b < n
    → (slice_index DIGITS_OF_BYTES (2 * b) ≡ hex_digit (b / 16)) × (slice_index DIGITS_OF_BYTES (2 * b + 1) ≡ hex_digit (b % 16))
below zero b are less = absurd (omega arith)
below (suc n) b are less =
    elim (eq-zero-or-pos (n - b)) [
      | inl none ↦
          let last : b ≡ n = omega arith in
          let both = and_l _ (are_digits n) are in rw last (eqb→eq _ _ (and_l _ _ both), eqb→eq _ _ (and_r _ _ both))
      | inr some ↦ below n b (and_r _ (are_digits n) are) (omega arith)
    ]

pub byte_is : (b at : ℕ) → b < 256 → at ≡ b → slice_index DIGITS_OF_BYTES (2 * at) ∷ slice_index DIGITS_OF_BYTES (2 * at + 1) ∷ [] ≡ hex_places 2 b
unfolding hex_places
byte_is b at small here =
    let digits = below 256 b tt small in
    let same : b / 16 % 16 ≡ b / 16 = omega (arith, small) in
    ap (λ k. slice_index DIGITS_OF_BYTES (2 * k) ∷ slice_index DIGITS_OF_BYTES (2 * k + 1) ∷ []) here
    ∙ ap (λ d. d ∷ slice_index DIGITS_OF_BYTES (2 * b + 1) ∷ []) (digits.0 ∙ ap hex_digit (sym same))
    ∙ ap (λ d. hex_digit (b / 16 % 16) ∷ d ∷ []) digits.1

-- The digits of a number are those of its highest bytes, and those of the lowest one.
last_byte : (places n : ℕ) → hex_places (suc (suc places)) n ≡ hex_places places (n / 256) ++ hex_places 2 (n % 256)
unfolding hex_places
last_byte places n =
    let high : n / 16 / 16 ≡ n / 256 = omega arith in
    let middle : n / 16 % 16 ≡ n % 256 / 16 % 16 = omega arith in
    let low : n % 16 ≡ n % 256 % 16 = omega arith in
    append_assoc (hex_places places (n / 16 / 16)) (hex_digit (n / 16 % 16) ∷ []) (hex_digit (n % 16) ∷ [])
    ∙ ap (λ m. hex_places places m ++ hex_digit (n / 16 % 16) ∷ hex_digit (n % 16) ∷ []) high
    ∙ ap (λ d. hex_places places (n / 256) ++ hex_digit d ∷ hex_digit (n % 16) ∷ []) middle
    ∙ ap (λ d. hex_places places (n / 256) ++ hex_digit (n % 256 / 16 % 16) ∷ hex_digit d ∷ []) low

-- Without the lowest byte each other one is a place lower.
next_byte : (k n : ℕ) → byte_at k (n / 256) ≡ byte_at (suc k) n
next_byte zero n = refl
next_byte (suc k) n = ap (λ m. m % 256) (div-div-eq-div-mul n 256 (256 ^ suc k) ∙ ap (λ p. n / p) (sym (pow-succ' 256 (suc k))))

-- two digits for each of so many bytes
abbrev places_of : ℕ → ℕ
places_of zero = zero
places_of (suc k) = suc (suc (places_of k))

-- The digits of a number begin with those of its highest byte.
first_byte : (k n : ℕ) → hex_places (places_of (suc k)) n ≡ hex_places 2 (byte_at k n) ++ hex_places (places_of k) n
unfolding hex_places
first_byte zero n = last_byte 0 n ∙ sym (append-nil (hex_places 2 (n % 256)))
first_byte (suc k) n =
    last_byte (places_of (suc k)) n ∙ ap (λ ds. ds ++ hex_places 2 (n % 256)) (first_byte k (n / 256))
    ∙ append_assoc (hex_places 2 (byte_at k (n / 256))) (hex_places (places_of k) (n / 256)) (hex_places 2 (n % 256))
    ∙ ap (λ b. hex_places 2 b ++ (hex_places (places_of k) (n / 256) ++ hex_places 2 (n % 256))) (next_byte k n)
    ∙ ap (λ ds. hex_places 2 (byte_at (suc k) n) ++ ds) (sym (last_byte (places_of k) n))

-- So a word's digits are those of its bytes, from the highest on.
all_bytes : (k n : ℕ) → flat_map (hex_places 2) (bytes_high_first k n) ≡ hex_places (places_of k) n
unfolding hex_places
all_bytes zero n = refl
all_bytes (suc k) n = ap (λ ds. hex_places 2 (byte_at k n) ++ ds) (all_bytes k n) ∙ sym (first_byte k n)

pub word_is : (n : ℕ) (bytes a b c d e f g h : List ℕ) → bytes ≡ to_be_bytes w64 n → a ≡ hex_places 2 (slice_index bytes 0)
    → b ≡ hex_places 2 (slice_index bytes 1) → c ≡ hex_places 2 (slice_index bytes 2) → d ≡ hex_places 2 (slice_index bytes 3)
    → e ≡ hex_places 2 (slice_index bytes 4) → f ≡ hex_places 2 (slice_index bytes 5) → g ≡ hex_places 2 (slice_index bytes 6)
    → h ≡ hex_places 2 (slice_index bytes 7) → a ++ (b ++ (c ++ (d ++ (e ++ (f ++ (g ++ (h ++ []))))))) ≡ hex_places 16 n
word_is n bytes a b c d e f g h are at_a at_b at_c at_d at_e at_f at_g at_h =
    (λ i. at_a i ++ (at_b i ++ (at_c i ++ (at_d i ++ (at_e i ++ (at_f i ++ (at_g i ++ (at_h i ++ []))))))))
    ∙ ap (λ (bs : List ℕ). hex_places 2 (slice_index bs 0) ++ (hex_places 2 (slice_index bs 1) ++ (hex_places 2 (slice_index bs 2)
    ++ (hex_places 2 (slice_index bs 3) ++ (hex_places 2 (slice_index bs 4) ++ (hex_places 2 (slice_index bs 5)
    ++ (hex_places 2 (slice_index bs 6) ++ (hex_places 2 (slice_index bs 7) ++ [])))))))) are
    ∙ all_bytes 8 n

pub short_word_is : (n : ℕ) (bytes a b c d : List ℕ) → bytes ≡ to_be_bytes w32 n → a ≡ hex_places 2 (slice_index bytes 0)
    → b ≡ hex_places 2 (slice_index bytes 1) → c ≡ hex_places 2 (slice_index bytes 2) → d ≡ hex_places 2 (slice_index bytes 3)
    → a ++ (b ++ (c ++ (d ++ []))) ≡ hex_places 8 n
short_word_is n bytes a b c d are at_a at_b at_c at_d =
    (λ i. at_a i ++ (at_b i ++ (at_c i ++ (at_d i ++ []))))
    ∙ ap (λ (bs : List ℕ). hex_places 2 (slice_index bs 0) ++ (hex_places 2 (slice_index bs 1) ++ (hex_places 2 (slice_index bs 2)
    ++ (hex_places 2 (slice_index bs 3) ++ [])))) are
    ∙ all_bytes 4 n

-- The decimal digits of small numbers.
pub one_decimal : (n : ℕ) → n < 10 → in_decimal n ≡ (48 + n) ∷ []
one_decimal n small = sym (decimal_is n (omega (arith, small))) ∙ decimal_digit n small

-- The digits of a number are those of its tenth, and the last.
one_decimal_more : (n : ℕ) → 10 ≤ n → n < 2 ^ 64 → in_decimal n ≡ in_decimal (n / 10) ++ (48 + n % 10) ∷ []
one_decimal_more n many small =
    sym (decimal_is n small) ∙ decimal_step n many small ∙ ap (λ ds. ds ++ (48 + n % 10) ∷ []) (decimal_is (n / 10) (omega (arith, small)))

pub two_decimals : (n : ℕ) → 10 ≤ n → n < 100 → in_decimal n ≡ (48 + n / 10) ∷ (48 + n % 10) ∷ []
two_decimals n many small =
    sym (decimal_is n (omega (arith, small))) ∙ decimal_step n many (omega (arith, small))
    ∙ ap (λ ds. ds ++ (48 + n % 10) ∷ []) (decimal_digit (n / 10) (omega (arith, small)))

pub three_decimals : (n : ℕ) → 100 ≤ n → n < 1000 → in_decimal n ≡ (48 + n / 100) ∷ (48 + n / 10 % 10) ∷ (48 + n % 10) ∷ []
three_decimals n many small =
    let high : n / 10 / 10 ≡ n / 100 = omega arith in
    one_decimal_more n (omega (arith, many)) (omega (arith, small))
    ∙ ap (λ ds. ds ++ (48 + n % 10) ∷ []) (two_decimals (n / 10) (omega (arith, many)) (omega (arith, small)))
    ∙ ap (λ m. (48 + m) ∷ (48 + n / 10 % 10) ∷ (48 + n % 10) ∷ []) high

pub four_decimals : (n : ℕ) → 1000 ≤ n → n < 10000
    → in_decimal n ≡ (48 + n / 1000) ∷ (48 + n / 100 % 10) ∷ (48 + n / 10 % 10) ∷ (48 + n % 10) ∷ []
four_decimals n many small =
    let high : n / 10 / 100 ≡ n / 1000 = omega arith in
    let middle : n / 10 / 10 ≡ n / 100 = omega arith in
    one_decimal_more n (omega (arith, many)) (omega (arith, small))
    ∙ ap (λ ds. ds ++ (48 + n % 10) ∷ []) (three_decimals (n / 10) (omega (arith, many)) (omega (arith, small)))
    ∙ ap (λ m. (48 + m) ∷ (48 + n / 10 / 10 % 10) ∷ (48 + n / 10 % 10) ∷ (48 + n % 10) ∷ []) high
    ∙ ap (λ m. (48 + n / 1000) ∷ (48 + m % 10) ∷ (48 + n / 10 % 10) ∷ (48 + n % 10) ∷ []) middle
