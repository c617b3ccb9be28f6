use Rattle.std.proofs.lemmas.List.{drop_all, flat_map_more, length-set, take_more, take_more_set}
use Rattle.std.proofs.Common.{◌≡◌, ℕ, length, flat_map, take, drop, slice_index, slice_set, zero, suc, ◌+◌, ◌-◌, ◌*◌, ◌/◌, ◌%◌, ◌^◌, ◌<◌, ◌==◌, Bool, false, cond, List, [], ◌∷◌, ◌++◌, map, sym, ap, ◌∙◌, subst, arith, append_assoc, append-nil, ◌≤◌, codes}
use Rattle.std.proofs.Math.Nat.{pow-succ'}
use Rattle.std.proofs.lemmas.List.{map-append}
use Rattle.std.specs.Int.Digits.{digits_of}
use Rattle.std.specs.Fmt.{decimal}
use Rattle.std.proofs.lemmas.Fmt.{decimal_digit, decimal-digits_of}
use Rattle.std.proofs.lemmas.Int.Digits.{digits_of_step}
use Rattle.std.proofs.lemmas.Bool.Decides.{nat_tests}
use Rattle.hex.specs.Hex.{encode_lower, encode_with, lower_digits}
use Rattle.hex.proofs.Pairs.{encode_step, take-two_writes}
use Rattle.image_lines.specs.DigitLaws.{digit_is}
use Rattle.report_text.specs.Digits.{hex_digit, hex_places, in_decimal}

-- Numbers by their digits.

-- One place fewer is left for the digits but the last.
pub fewer : (n places : ℕ) → n < 16 ^ places → 0 < n → (0 < places) × (n / 16 < 16 ^ (places - 1))
fewer n zero small some = absurd (omega arith)
fewer n (suc k) small some =
    let power : 16 ^ suc k ≡ 16 * 16 ^ k = pow-succ' 16 k in
    let less : suc k - 1 ≡ k = omega arith in
    let high : n / 16 < 16 ^ k = omega (arith, small, power) in
    (omega arith, subst (λ m. n / 16 < 16 ^ m) (sym less) high)

-- The digits of a number are those of its sixteenth, and the last.
pub one_digit_more : (old before new : List ℕ) (n digit : ℕ) → 0 < n → before ≡ old ++ map hex_digit (digits_of 16 (n / 16))
    → digit ≡ hex_digit (n % 16) → new ≡ before ++ digit ∷ [] → new ≡ old ++ map hex_digit (digits_of 16 n)
one_digit_more old before new n digit some so_far last pushed =
    pushed ∙ ap (λ d. before ++ d ∷ []) last ∙ ap (λ ds. ds ++ hex_digit (n % 16) ∷ []) so_far
    ∙ append_assoc old (map hex_digit (digits_of 16 (n / 16))) (hex_digit (n % 16) ∷ [])
    ∙ ap (λ ds. old ++ ds) (sym (ap (map hex_digit) (digits_of_step 16 n (omega arith) some) ∙ map-append hex_digit (digits_of 16 (n / 16)) (n % 16 ∷ [])))

-- Std's decimal text is the one by digits.
pub decimal_is : (n : ℕ) → n < 2 ^ 64 → decimal n ≡ in_decimal n
unfolding in_decimal
decimal_is zero small = decimal_digit 0 (omega arith)
decimal_is (suc n) small =
    let some : (suc n == 0) ≡ false = grind (arith, nat_tests) in
    decimal-digits_of (suc n) (omega arith) small
    ∙ sym (ap (λ (t : Bool). cond t (codes "0") (map (λ d. 48 + d) (digits_of 10 (suc n)))) some)

-- A blank and the digits of a byte are put behind those so far.
dumped : ℕ → List ℕ
dumped b = codes " " ++ hex_places 2 b

dumped_is : (b : ℕ) → b < 256 → dumped b ≡ 32 ∷ hex_digit (b / 16) ∷ hex_digit (b % 16) ∷ []
unfolding dumped hex_places
dumped_is b small = let same : b / 16 % 16 ≡ b / 16 = omega (arith, small) in ap (λ d. 32 ∷ hex_digit d ∷ hex_digit (b % 16) ∷ []) same

pub one_dumped_more : (bytes text : List ℕ) (i high low : ℕ) → i < length bytes → 3 * i + 2 < length text → slice_index bytes i < 256
    → high ≡ hex_digit (slice_index bytes i / 16) → low ≡ hex_digit (slice_index bytes i % 16)
    → take (3 * i) text ≡ flat_map (λ b. codes " " ++ hex_places 2 b) (take i bytes)
    → take (3 * (i + 1)) (slice_set (slice_set (slice_set text (3 * i) 32) (3 * i + 1) high) (3 * i + 2) low)
    ≡ flat_map (λ b. codes " " ++ hex_places 2 b) (take (i + 1) bytes)
unfolding dumped
one_dumped_more bytes text i high low below fits small at_high at_low so_far =
    let b = slice_index bytes i in
    let first = slice_set text (3 * i) 32 in
    let three : 3 * (i + 1) ≡ 3 * i + 1 + 2 = omega arith in
    let last : 3 * i + 2 ≡ 3 * i + 1 + 1 = omega arith in
    ap (λ m. take m (slice_set (slice_set first (3 * i + 1) high) (3 * i + 2) low)) three
    ∙ ap (λ m. take (3 * i + 1 + 2) (slice_set (slice_set first (3 * i + 1) high) m low)) last
    ∙ take-two_writes first (3 * i + 1) high low (omega (arith, length-set text (3 * i) 32, fits))
    ∙ ap (λ t. t ++ high ∷ low ∷ []) (take_more_set text (3 * i) 32 (omega (arith, fits)))
    ∙ append_assoc (take (3 * i) text) (32 ∷ []) (high ∷ low ∷ [])
    ∙ ap (λ d. take (3 * i) text ++ 32 ∷ d ∷ low ∷ []) at_high ∙ ap (λ d. take (3 * i) text ++ 32 ∷ hex_digit (b / 16) ∷ d ∷ []) at_low
    ∙ ap (λ t. t ++ 32 ∷ hex_digit (b / 16) ∷ hex_digit (b % 16) ∷ []) so_far
    ∙ ap (λ ds. flat_map dumped (take i bytes) ++ ds) (sym (dumped_is b small))
    ∙ flat_map_more dumped [] (take i bytes) b ∙ sym (ap (flat_map dumped) (take_more bytes i 0 below))

-- The digits of a byte more are put behind those so far; and of all bytes they are the hexadecimal text of the kit.
pub one_byte_more : (bytes digits : List ℕ) (i high low : ℕ) → i < length bytes → 2 * i + 1 < length digits → slice_index bytes i < 256
    → high ≡ hex_digit (slice_index bytes i / 16) → low ≡ hex_digit (slice_index bytes i % 16)
    → take (2 * i) digits ++ encode_lower (drop i bytes) ≡ encode_lower bytes
    → take (2 * (i + 1)) (slice_set (slice_set digits (2 * i) high) (2 * i + 1) low) ++ encode_lower (drop (i + 1) bytes) ≡ encode_lower bytes
one_byte_more bytes digits i high low below fits small at_high at_low so_far =
    encode_step lower_digits bytes digits i high low below fits (at_high ∙ sym (digit_is (slice_index bytes i / 16) (omega (arith, small))))
    (at_low ∙ sym (digit_is (slice_index bytes i % 16) (omega arith))) so_far

pub no_byte_left : (bytes digits : List ℕ) (i : ℕ) → i ≤ length bytes → length bytes ≤ i → take (2 * i) digits ++ encode_lower (drop i bytes) ≡ encode_lower bytes
    → take (2 * length bytes) digits ≡ encode_lower bytes
unfolding encode_with
no_byte_left bytes digits i few all so_far =
    let at : length bytes ≡ i = omega (arith, few, all) in
    sym (append-nil (take (2 * length bytes) digits)) ∙ ap (λ n. take (2 * n) digits ++ []) at
    ∙ ap (λ ds. take (2 * i) digits ++ encode_lower ds) (sym (drop_all i bytes all)) ∙ so_far
