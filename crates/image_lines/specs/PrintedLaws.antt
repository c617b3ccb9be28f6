use Rattle.std.specs.Prelude.{◌≡◌, ℕ, zero, suc, ◌+◌, ◌*◌, ◌/◌, ◌%◌, ◌<◌, ◌≤◌, nat_le, cond, List, [], ◌∷◌, ◌++◌, length, take, drop, codes, refl}
use Rattle.std.specs.List.{AllByRecursion}
use Rattle.std.proofs.Common.{sym, ap, subst, ◌∙◌, inl, inr, arith, append_assoc, length-append}
use Rattle.std.proofs.Math.Seq.{drop-nil}
use Rattle.std.proofs.lemmas.Bool.{cases_lt, le-leb, lt-leb}
use Rattle.std.proofs.lemmas.List.{append-nil, drop-take, length-drop, length-take-le, take-append-drop}
use Rattle.sizes.specs.declared.TheConstants.{LINE_BYTES, MOST_FILE_BYTES}
use Rattle.hex.specs.Hex.{encode_lower, encode_with, lower_digits}
use Rattle.hex.proofs.HexLemmas.{length-encode_with}
use Rattle.image_lines.specs.Digits.{bytes_digits, digit}
use Rattle.image_lines.specs.Lines.{ArePieces, IsByte, IsWhole, bytes_of, image_line, lines_of, pieces_up_to, printed}

-- What is printed of bytes, line by line, and how long it is.

-- by the test whether bytes are one piece
pub by_length : (P : List (List ℕ) → Type 0) (bytes : List ℕ) (one more : List (List ℕ)) → (length bytes ≤ LINE_BYTES → P one) → (LINE_BYTES < length bytes → P more)
    → P (cond (nat_le (length bytes) LINE_BYTES) one more)
by_length P bytes one more few many =
    elim (cases_lt LINE_BYTES (length bytes)) [
      | inl lt ↦ subst (λ b. P (cond b one more)) (sym (lt-leb (length bytes) LINE_BYTES lt)) (many lt)
      | inr le ↦ subst (λ b. P (cond b one more)) (sym (le-leb (length bytes) LINE_BYTES le)) (few le)
    ]

-- as many pieces as are enough are all of them
enough : (n m : ℕ) (bytes : List ℕ) → length bytes ≤ LINE_BYTES + n → length bytes ≤ LINE_BYTES + m → pieces_up_to n bytes ≡ pieces_up_to m bytes
unfolding pieces_up_to
enough zero zero bytes few less = refl
enough zero (suc m) bytes few less =
    by_length (λ ps. bytes ∷ [] ≡ ps) bytes (bytes ∷ []) (take LINE_BYTES bytes ∷ pieces_up_to m (drop LINE_BYTES bytes)) (λ le. refl) (λ lt. absurd (omega (arith, few, lt)))
enough (suc n) zero bytes few less =
    by_length (λ ps. ps ≡ bytes ∷ []) bytes (bytes ∷ []) (take LINE_BYTES bytes ∷ pieces_up_to n (drop LINE_BYTES bytes)) (λ le. refl) (λ lt. absurd (omega (arith, less, lt)))
enough (suc n) (suc m) bytes few less =
    ap (λ ps. cond (nat_le (length bytes) LINE_BYTES) (bytes ∷ []) (take LINE_BYTES bytes ∷ ps)) (
    enough n m (drop LINE_BYTES bytes) (omega (arith, length-drop LINE_BYTES bytes, few)) (omega (arith, length-drop LINE_BYTES bytes, less)))

-- At most 64 bytes are one line, and more are a line of the first 64 before those of the others.
pub printed_last : (bytes : List ℕ) → length bytes ≤ LINE_BYTES → printed bytes ≡ image_line bytes
unfolding pieces_up_to
printed_last bytes few = ap lines_of (enough (length bytes) 0 bytes (omega arith) (omega (arith, few))) ∙ append-nil (image_line bytes)

pub printed_more : (bytes : List ℕ) → LINE_BYTES < length bytes → printed bytes ≡ image_line (take LINE_BYTES bytes) ++ printed (drop LINE_BYTES bytes)
unfolding pieces_up_to
printed_more bytes many =
    let rest = drop LINE_BYTES bytes in
    let more : List (List ℕ) = take LINE_BYTES bytes ∷ pieces_up_to (length rest) rest in
    let left = length-drop LINE_BYTES bytes in
    ap lines_of (enough (length bytes) (suc (length rest)) bytes (omega arith) (omega (arith, left))
    ∙ by_length (λ ps. ps ≡ more) bytes (bytes ∷ []) more (λ le. absurd (omega (arith, le, many))) (λ lt. refl))

-- So what is printed of more than some whole lines is that of their bytes before that of the others.
take_less : (n k : ℕ) (xs : List ℕ) → n ≤ k → take n (take k xs) ≡ take n xs
take_less zero k xs few = refl
take_less (suc n) zero xs few = absurd (omega (arith, few))
take_less (suc n) (suc k) [] few = refl
take_less (suc n) (suc k) (x ∷ xs) few = λ i. x ∷ take_less n k xs (omega (arith, few)) i

drop_more : (n m k : ℕ) (xs : List ℕ) → k ≡ n + m → drop m (drop n xs) ≡ drop k xs
drop_more zero m k xs is = ap (λ j. drop j xs) (omega (arith, is))
drop_more (suc n) m zero xs is = absurd (omega (arith, is))
drop_more (suc n) m (suc k) [] is = drop-nil m
drop_more (suc n) m (suc k) (x ∷ xs) is = drop_more n m k xs (omega (arith, is))

one_more : (n : ℕ) → LINE_BYTES * suc (suc n) ≡ LINE_BYTES + LINE_BYTES * suc n
one_more n = omega arith

front_first : (n : ℕ) (bytes : List ℕ) → LINE_BYTES * suc (suc n) < length bytes
    → printed (take (LINE_BYTES * suc (suc n)) bytes) ≡ image_line (take LINE_BYTES bytes) ++ printed (take (LINE_BYTES * suc n) (drop LINE_BYTES bytes))
front_first n bytes many =
    let k = LINE_BYTES * suc n in
    let long = length-take-le (LINE_BYTES + k) bytes (omega (arith, many)) in
    ap (λ j. printed (take j bytes)) (one_more n)
    ∙ printed_more (take (LINE_BYTES + k) bytes) (omega (arith, long))
    ∙ (λ i. image_line (take_less LINE_BYTES (LINE_BYTES + k) bytes (omega arith) i) ++ printed (drop-take LINE_BYTES k bytes i))

pub printed_lines : (n : ℕ) (bytes : List ℕ) → LINE_BYTES * suc n < length bytes
    → printed bytes ≡ printed (take (LINE_BYTES * suc n) bytes) ++ printed (drop (LINE_BYTES * suc n) bytes)
printed_lines zero bytes many =
    let long = length-take-le LINE_BYTES bytes (omega (arith, many)) in
    printed_more bytes (omega (arith, many)) ∙ ap (λ (t : List ℕ). t ++ printed (drop LINE_BYTES bytes)) (sym (printed_last (take LINE_BYTES bytes) (omega (arith, long))))
printed_lines (suc n) bytes many =
    let rest = drop LINE_BYTES bytes in
    let first = image_line (take LINE_BYTES bytes) in
    let k = LINE_BYTES * suc n in
    let left = length-drop LINE_BYTES bytes in
    let behind : drop k rest ≡ drop (LINE_BYTES * suc (suc n)) bytes = drop_more LINE_BYTES k (LINE_BYTES * suc (suc n)) bytes (one_more n) in
    printed_more bytes (omega (arith, many))
    ∙ ap (λ (t : List ℕ). first ++ t) (printed_lines n rest (omega (arith, many, left)))
    ∙ sym (append_assoc first (printed (take k rest)) (printed (drop k rest)))
    ∙ (λ i. sym (front_first n bytes many) i ++ printed (behind i))

-- A line is the word, two digits for each byte, and the end.
digits_are : (bytes : List ℕ) → encode_lower bytes ≡ bytes_digits bytes
unfolding encode_with
digits_are [] = refl
digits_are (b ∷ bytes) = λ i. digit (b / 16) ∷ digit (b % 16) ∷ digits_are bytes i

pub line_splits : (piece rest : List ℕ) → image_line piece ++ rest ≡ codes "image " ++ (bytes_digits piece ++ 10 ∷ rest)
unfolding image_line
line_splits piece rest =
    ap (λ (t : List ℕ). (codes "image " ++ (t ++ 10 ∷ [])) ++ rest) (digits_are piece)
    ∙ ap (λ (t : List ℕ). codes "image " ++ t) (append_assoc (bytes_digits piece) (10 ∷ []) rest)

pub line_long : (piece rest : List ℕ) → length rest < length (image_line piece ++ rest)
line_long piece rest = omega (arith, ap length (line_splits piece rest), length-append (bytes_digits piece) (10 ∷ rest))

-- So it has two digits for each byte, and seven bytes more.
line_length : (bytes rest : List ℕ) → length (image_line bytes ++ rest) ≡ 2 * length bytes + 7 + length rest
unfolding image_line
line_length bytes rest =
    omega (arith, length-append (image_line bytes) rest, length-append (encode_lower bytes) (10 ∷ []), length-encode_with lower_digits bytes)

lines_length : (n : ℕ) (bytes : List ℕ) → length (lines_of (pieces_up_to n bytes)) ≤ 3 * length bytes + 7
unfolding pieces_up_to
lines_length zero bytes = omega (arith, line_length bytes [])
lines_length (suc n) bytes =
    let first = take LINE_BYTES bytes in
    let rest = drop LINE_BYTES bytes in
    by_length (λ ps. length (lines_of ps) ≤ 3 * length bytes + 7) bytes (bytes ∷ []) (first ∷ pieces_up_to n rest)
    (λ le. omega (arith, line_length bytes []))
    (λ lt. omega (arith, line_length first (lines_of (pieces_up_to n rest)), lines_length n rest, length-drop LINE_BYTES bytes, length-take-le LINE_BYTES bytes (omega (arith, lt)), lt))

-- What is printed of a quarter of the bytes that a file may have is a file: of 4 MiB, where a file has at most 16.
pub printed_fits : (bytes : List ℕ) → 4 * length bytes ≤ MOST_FILE_BYTES → length (printed bytes) ≤ MOST_FILE_BYTES
printed_fits bytes few = omega (arith, lines_length (length bytes) bytes, few)

-- The pieces of bytes are pieces, and say them.

all_take : (n : ℕ) (xs : List ℕ) → AllByRecursion IsByte xs → AllByRecursion IsByte (take n xs)
all_take zero xs all = tt
all_take (suc n) [] all = tt
all_take (suc n) (x ∷ xs) all = (all.0, all_take n xs all.1)

all_drop : (n : ℕ) (xs : List ℕ) → AllByRecursion IsByte xs → AllByRecursion IsByte (drop n xs)
all_drop zero xs all = all
all_drop (suc n) [] all = tt
all_drop (suc n) (x ∷ xs) all = all_drop n xs all.1

pub more_pieces : (piece : List ℕ) (pieces : List (List ℕ)) → IsWhole piece → ArePieces pieces → ArePieces (piece ∷ pieces)
more_pieces piece [] whole are = absurd are
more_pieces piece (next ∷ more) whole are = (whole.0, whole.1, are)

pub pieces_are : (n : ℕ) (bytes : List ℕ) → 0 < length bytes → length bytes ≤ 64 + n → AllByRecursion IsByte bytes → ArePieces (pieces_up_to n bytes)
unfolding pieces_up_to
pieces_are zero bytes some few each = record { some = some; few = omega (arith, few); each = each }
pieces_are (suc n) bytes some few each =
    by_length ArePieces bytes (bytes ∷ []) (take 64 bytes ∷ pieces_up_to n (drop 64 bytes))
    (λ le. record { some = some; few = le; each = each })
    (λ lt. let long = length-take-le 64 bytes (omega (arith, lt)) in
    more_pieces (take 64 bytes) (pieces_up_to n (drop 64 bytes))
    (record { some = omega (arith, long); few = omega (arith, long); each = all_take 64 bytes each }, long)
    (pieces_are n (drop 64 bytes) (omega (arith, length-drop 64 bytes, lt)) (omega (arith, length-drop 64 bytes, few)) (all_drop 64 bytes each)))

pub pieces_joined : (n : ℕ) (bytes : List ℕ) → bytes_of (pieces_up_to n bytes) ≡ bytes
unfolding pieces_up_to
pieces_joined zero bytes = append-nil bytes
pieces_joined (suc n) bytes =
    by_length (λ pieces. bytes_of pieces ≡ bytes) bytes (bytes ∷ []) (take 64 bytes ∷ pieces_up_to n (drop 64 bytes))
    (λ le. append-nil bytes)
    (λ lt. ap (λ (t : List ℕ). take 64 bytes ++ t) (pieces_joined n (drop 64 bytes)) ∙ take-append-drop 64 bytes)
