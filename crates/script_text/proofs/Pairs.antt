use Rattle.std.proofs.Common.{◌≡◌, ℕ, ◌+◌, ◌*◌, ◌%◌, ◌<◌, ◌≤◌, ◌&&◌, ◌==◌, nat_le, true, List, [], ◌∷◌, ◌++◌, length, drop, get_or, arith, ap, sym, ◌∙◌, refl, append_assoc, append-nil, length-drop}
use Rattle.std.specs.List.{list_all, All}
use Rattle.std.proofs.lemmas.List.{drop_more}
use Rattle.std.proofs.lemmas.List.Elements.{All-nil, All-cons}
use Rattle.std.proofs.lemmas.Bool.{and_parts}
use Rattle.std.proofs.lemmas.Bool.Decides.{nat_tests}
use Rattle.script_text.specs.declared.TheConstants.{MOST_POKED}
use Rattle.script_text.specs.Numbers.{is_hexadecimal, digit}
use Rattle.script_text.specs.Kinds.{is_hex, bytes_of_pairs}
use Rattle.script_text.specs.Given.{IsPoked}

-- Bytes as pairs of hexadecimal digits.

small : (b : ℕ) → is_hexadecimal b ≡ true → digit b < 16
small b h = grind (arith, nat_tests)

pub half : (digits : List ℕ) → length digits % 2 ≡ 0 → length (bytes_of_pairs digits) * 2 ≡ length digits
half [] even = refl
half (a ∷ []) even = absurd (omega arith)
half (a ∷ b ∷ digits) even = let rest = half digits (omega arith) in omega arith

bytes_small : (digits : List ℕ) → list_all is_hexadecimal digits ≡ true → All (λ b. b < 256) (bytes_of_pairs digits)
bytes_small [] h = All-nil _
bytes_small (a ∷ []) h = All-nil _
bytes_small (a ∷ b ∷ digits) h =
    let first = and_parts (is_hexadecimal a) (list_all is_hexadecimal (b ∷ digits)) h in
    let second = and_parts (is_hexadecimal b) (list_all is_hexadecimal digits) first.1 in
    All-cons (λ b. b < 256) (16 * digit a + digit b) (bytes_of_pairs digits) (omega (arith, small a first.0, small b second.0)) (bytes_small digits second.1)

-- one pair is taken from the digits that are left, until there is none
pub one_pair : (bytes digits : List ℕ) (i high low : ℕ) → 2 * i + 1 < length digits → high ≡ digit (get_or digits (2 * i) 0)
    → low ≡ digit (get_or digits (2 * i + 1) 0)
    → (bytes ++ (16 * high + low) ∷ []) ++ bytes_of_pairs (drop (2 * (i + 1)) digits) ≡ bytes ++ bytes_of_pairs (drop (2 * i) digits)
one_pair bytes digits i high low below is_high is_low =
    let n = 2 * i in
    let next : n + 1 + 1 ≡ 2 * (i + 1) = omega arith in
    let rest = bytes_of_pairs (drop (2 * (i + 1)) digits) in
    let two = drop_more digits n 0 (omega (arith, below)) ∙ ap (λ ds. get_or digits n 0 ∷ ds)
    (drop_more digits (n + 1) 0 below ∙ ap (λ k. get_or digits (n + 1) 0 ∷ drop k digits) next) in
    append_assoc bytes ((16 * high + low) ∷ []) rest ∙ ap (λ h. bytes ++ (16 * h + low) ∷ rest) is_high
    ∙ ap (λ l. bytes ++ (16 * digit (get_or digits n 0) + l) ∷ rest) is_low ∙ ap (λ ds. bytes ++ bytes_of_pairs ds) (sym two)

none_left : (digits : List ℕ) → length digits ≤ 1 → bytes_of_pairs digits ≡ []
none_left [] h = refl
none_left (a ∷ []) h = refl
none_left (a ∷ b ∷ digits) h = absurd (omega arith)

pub no_pair : (bytes digits all : List ℕ) (n : ℕ) → length digits ≤ n + 1 → bytes ++ bytes_of_pairs (drop n digits) ≡ all → bytes ≡ all
no_pair bytes digits all n few h =
    sym (append-nil bytes) ∙ ap (λ more. bytes ++ more) (sym (none_left (drop n digits) (omega (arith, length-drop n digits)))) ∙ h

-- the bytes of a word: 1 to 4096, each below 256
pub paired : (word : List ℕ) → is_hex word ≡ true → IsPoked (bytes_of_pairs word)
paired word h =
    let tests = and_parts (nat_le 2 (length word) && nat_le (length word) (2 * MOST_POKED) && length word % 2 == 0) (list_all is_hexadecimal word) h in
    let lengths = and_parts (nat_le 2 (length word) && nat_le (length word) (2 * MOST_POKED)) (length word % 2 == 0) tests.0 in
    let both = and_parts (nat_le 2 (length word)) (nat_le (length word) (2 * MOST_POKED)) lengths.0 in
    let even : length word % 2 ≡ 0 = grind (arith, nat_tests) in
    let count = half word even in
    (grind (arith, nat_tests), grind (arith, nat_tests), bytes_small word tests.1)
