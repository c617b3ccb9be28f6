use Rattle.std.proofs.Common.{◌≡◌, ℕ, ◌+◌, ◌*◌, ◌/◌, ◌%◌, ◌<◌, ◌≤◌, Some, None, List, [], ◌∷◌, ◌++◌, length, drop, get_or, set, take, max, refl, subst, sym, ap, ◌∙◌, inl, inr, ◌⊎◌, ◌-◌, arith, append_assoc, length-append}
use Rattle.std.specs.Prelude.{codes}
use Rattle.std.specs.List.{AllByRecursion}
use Rattle.std.proofs.lemmas.Bool.{cases_lt}
use Rattle.std.proofs.lemmas.List.{append-nil, drop_all, drop_more, flat_map_more, length-set, take-append-drop, take_all, take_more_set}
use Rattle.image_lines.specs.Digits.{byte_digits, bytes_digits, digit}
use Rattle.image_lines.specs.DigitLaws.{digit_at, digit_ends, digit_high, digit_low}
use Rattle.image_lines.specs.Lines.{IsByte, IsPiece, image_line}
use Rattle.image_lines.specs.PrintedLaws.{line_splits}
use Rattle.image_lines.specs.Reading.{Begins, HasNoByte, HaveBytes, IsByteOf, IsDigit, ReadsBytes, ReadsLine}

-- Digits.

pub one_digit : (d e : ℕ) → d < 16 → e < 16 → digit d ≡ digit e → d ≡ e
one_digit d e lt less same =
    elim (cases_lt d 10) [
      | inl low ↦ elim (cases_lt e 10) [
        | inl small ↦ omega (arith, digit_low d low, digit_low e small, same)
        | inr large ↦ absurd (omega (arith, digit_low d low, digit_high e large less, same, low, large))
      ]
      | inr high ↦ elim (cases_lt e 10) [
        | inl small ↦ absurd (omega (arith, digit_high d high lt, digit_low e small, same, high, small))
        | inr large ↦ omega (arith, digit_high d high lt, digit_high e large less, same)
      ]
    ]

-- the digit of a character, and that others are none
pub low_digit : (c : ℕ) → 48 ≤ c → c ≤ 57 → (c - 48 < 16) × (digit (c - 48) ≡ c)
low_digit c ge le = (omega (arith, ge, le), digit_low (c - 48) (omega (arith, ge, le)) ∙ omega (arith, ge))

pub high_digit : (c : ℕ) → 97 ≤ c → c ≤ 102 → (c - 97 + 10 < 16) × (digit (c - 97 + 10) ≡ c)
high_digit c ge le = (omega (arith, ge, le), digit_high (c - 97 + 10) (omega arith) (omega (arith, ge, le)) ∙ omega (arith, ge))

pub no_digit : (c : ℕ) → (c < 48) ⊎ (((57 < c) × (c < 97)) ⊎ (102 < c)) → (d : ℕ) → d < 16 → digit d ≡ c → ⊥
no_digit c out d lt same =
    elim (digit_at d lt) [
      | inl low ↦ elim out [
        | inl under ↦ omega (arith, low.0, same, under)
        | inr (inl between) ↦ omega (arith, low.1, same, between.0)
        | inr (inr over) ↦ omega (arith, low.1, same, over)
      ]
      | inr high ↦ elim out [
        | inl under ↦ omega (arith, high.0, same, under)
        | inr (inl between) ↦ omega (arith, high.0, same, between.1)
        | inr (inr over) ↦ omega (arith, high.1, same, over)
      ]
    ]

-- Bytes, of two digits each.

one_byte : (a b : ℕ) → a < 256 → b < 256 → digit (a / 16) ≡ digit (b / 16) → digit (a % 16) ≡ digit (b % 16) → a ≡ b
one_byte a b lt less high low =
    let first = one_digit (a / 16) (b / 16) (omega (arith, lt)) (omega (arith, less)) high in
    let second = one_digit (a % 16) (b % 16) (omega arith) (omega arith) low in
    omega (arith, first, second)

-- one text is of one run of bytes
pub one_run : (a b : List ℕ) (rest more : List ℕ) → AllByRecursion IsByte a → AllByRecursion IsByte b → HasNoByte rest
    → bytes_digits a ++ rest ≡ bytes_digits b ++ 10 ∷ more → (a ≡ b) × (rest ≡ 10 ∷ more)
one_run [] [] rest more one other none e = (refl, e)
one_run [] (y ∷ ys) rest more one other none e = absurd (none y (bytes_digits ys ++ 10 ∷ more) other.0 e)
one_run (x ∷ xs) [] rest more one other none e =
    let same : digit (x / 16) ≡ 10 = cc in
    absurd (omega (arith, same, (digit_ends (x / 16) (omega (arith, one.0))).0))
one_run (x ∷ xs) (y ∷ ys) rest more one other none e =
    let high : digit (x / 16) ≡ digit (y / 16) = cc in
    let low : digit (x % 16) ≡ digit (y % 16) = cc in
    let first = one_byte x y one.0 other.0 high low in
    let others = one_run xs ys rest more one.1 other.1 none (ap (drop 2) e) in
    (λ i. first i ∷ others.0 i, others.1)

pub byte_is : (high low a b : ℕ) → IsDigit high (Some a) → IsDigit low (Some b) → (16 * a + b < 256) × (byte_digits (16 * a + b) ≡ high ∷ low ∷ [])
byte_is high low a b first second =
    let upper : (16 * a + b) / 16 ≡ a = omega (arith, second.0) in
    let lower : (16 * a + b) % 16 ≡ b = omega (arith, second.0) in
    (omega (arith, first.0, second.0), λ i. (ap digit upper ∙ first.1) i ∷ (ap digit lower ∙ second.1) i ∷ [])

pub no_high : (high low : ℕ) → IsDigit high None → IsByteOf high low None
no_high high low none = λ b lt e. none (b / 16) (omega (arith, lt)) cc

pub no_low : (high low : ℕ) → IsDigit low None → IsByteOf high low None
no_low high low none = λ b lt e. none (b % 16) (omega arith) cc

all_push : (xs : List ℕ) (y : ℕ) → AllByRecursion IsByte xs → IsByte y → AllByRecursion IsByte (xs ++ y ∷ [])
all_push [] y all is = (is, tt)
all_push (x ∷ xs) y all is = (all.0, all_push xs y all.1 is)

-- a byte more
pub byte_more : (old new text rest after : List ℕ) (b : ℕ) → HaveBytes old new text rest → b < 256 → rest ≡ byte_digits b ++ after
    → HaveBytes old (new ++ b ∷ []) text after
byte_more old new text rest after b have lt next = record {
  piece = have.piece ++ b ∷ [];
  each = all_push have.piece b have.each lt;
  added = ap (λ (t : List ℕ). t ++ b ∷ []) have.added ∙ append_assoc old have.piece (b ∷ []);
  so_far = have.so_far ∙ ap (λ (t : List ℕ). bytes_digits have.piece ++ t) next ∙ sym (append_assoc (bytes_digits have.piece) (byte_digits b) after)
      ∙ ap (λ (t : List ℕ). t ++ after) (flat_map_more byte_digits [] have.piece b);
}

-- the bytes that the first digits of a text say, behind those that were read before
pub bytes_behind : (old new bytes text digits rest : List ℕ) (n : ℕ) → HaveBytes [] bytes digits [] → new ≡ old ++ bytes → digits ≡ take n text → rest ≡ drop n text
    → HaveBytes old new text rest
bytes_behind old new bytes text digits rest n have added front behind = record {
  piece = have.piece;
  each = have.each;
  added = added ∙ ap (λ (t : List ℕ). old ++ t) have.added;
  so_far = sym (take-append-drop n text) ∙ ap (λ (t : List ℕ). t ++ drop n text) (sym front ∙ have.so_far ∙ append-nil (bytes_digits have.piece))
      ∙ ap (λ (t : List ℕ). bytes_digits have.piece ++ t) (sym behind);
}

-- The pairs of an array, in places.

two_more : (digits : List ℕ) (k : ℕ) → 2 * k + 1 < length digits
    → drop (2 * k) digits ≡ get_or digits (2 * k) 0 ∷ get_or digits (2 * k + 1) 0 ∷ drop (2 * (k + 1)) digits
two_more digits k lt =
    let next : (2 * k + 1) + 1 ≡ 2 * (k + 1) = omega arith in
    drop_more digits (2 * k) 0 (omega (arith, lt))
    ∙ ap (λ (t : List ℕ). get_or digits (2 * k) 0 ∷ t) (drop_more digits (2 * k + 1) 0 lt ∙ ap (λ n. get_or digits (2 * k + 1) 0 ∷ drop n digits) next)

-- the bytes of the first pairs, where each character among them is a digit
pub record ArePairs (digits bytes : List ℕ) (most k : ℕ) : Type 0 where
  pub full : length bytes ≡ 64
  pub read : most < 16 → HaveBytes [] (take k bytes) digits (drop (2 * k) digits)

pub no_pairs : (digits bytes : List ℕ) → length bytes ≡ 64 → ArePairs digits bytes 0 0
no_pairs digits bytes full = record { full = full; read = λ _. record { piece = []; each = tt; added = refl; so_far = refl } }

-- a pair more
pub pair_more : (digits bytes : List ℕ) (most k a b first second : ℕ) → length digits ≡ 128 → k < 64 → ArePairs digits bytes most k
    → (a < 16 → IsDigit (get_or digits (2 * k) 0) (Some a)) → (b < 16 → IsDigit (get_or digits (2 * k + 1) 0) (Some b))
    → first ≡ max most a → second ≡ max first b
    → ArePairs digits (set bytes k ((a * 16 % 256 + b) % 256)) second (k + 1)
pair_more digits bytes most k a b first second all less are high low is then = record {
  full = length-set bytes k ((a * 16 % 256 + b) % 256) ∙ are.full;
  read = λ few.
      let upper = high (omega (arith, is, then, few)) in
      let lower = low (omega (arith, is, then, few)) in
      let byte = byte_is (get_or digits (2 * k) 0) (get_or digits (2 * k + 1) 0) a b upper lower in
      let same : (a * 16 % 256 + b) % 256 ≡ 16 * a + b = omega (arith, upper.0, lower.0) in
      let after = drop (2 * (k + 1)) digits in
      subst (λ t. HaveBytes [] t digits after)
      (sym (ap (λ n. take (k + 1) (set bytes k n)) same ∙ take_more_set bytes k (16 * a + b) (omega (arith, less, are.full))))
      (byte_more [] (take k bytes) digits (drop (2 * k) digits) after (16 * a + b) (are.read (omega (arith, is, then, few))) byte.0
      (two_more digits k (omega (arith, less, all)) ∙ ap (λ (t : List ℕ). t ++ after) (sym byte.1)));
}

pub pairs_end : (digits bytes : List ℕ) (most k : ℕ) → length digits ≡ 128 → 64 ≤ k → most < 16 → ArePairs digits bytes most k → HaveBytes [] bytes digits []
pairs_end digits bytes most k all end few are =
    subst (λ t. HaveBytes [] t digits []) (take_all k bytes (omega (arith, are.full, end)))
    (subst (λ t. HaveBytes [] (take k bytes) digits t) (drop_all (2 * k) digits (omega (arith, all, end))) (are.read few))

-- A line.

pub no_word : (old new text : List ℕ) → Begins (codes "image ") text None → ReadsLine old new text None
no_word old new text none = λ piece rest is e. none (bytes_digits piece ++ 10 ∷ rest) (e ∙ line_splits piece rest)

-- what is known of a line that stands where bytes were read
the_line : (old new text digits rest piece more : List ℕ) → text ≡ codes "image " ++ digits → (have : HaveBytes old new digits rest) → HasNoByte rest → IsPiece piece
    → text ≡ image_line piece ++ more → (have.piece ≡ piece) × (rest ≡ 10 ∷ more)
the_line old new text digits rest piece more word have none is e =
    one_run have.piece piece rest more have.each is.each none (sym have.so_far ∙ ap (drop 6) (sym word ∙ e ∙ line_splits piece more))

pub no_end : (old new text digits rest : List ℕ) → text ≡ codes "image " ++ digits → ReadsBytes old new digits rest → Begins (10 ∷ []) rest None
    → ReadsLine old new text None
no_end old new text digits rest word read none = λ piece more is e. none more (the_line old new text digits rest piece more word read.0 read.1 is e).1

pub wrong_count : (old new text digits rest : List ℕ) → text ≡ codes "image " ++ digits → ReadsBytes old new digits rest
    → (length new ≡ length old) ⊎ (64 < length new - length old) → ReadsLine old new text None
wrong_count old new text digits rest word read wrong = λ piece more is e.
    let same = ap length (the_line old new text digits rest piece more word read.0 read.1 is e).0 in
    let added = ap length read.0.added ∙ length-append old read.0.piece in
    elim wrong [
      | inl none ↦ omega (arith, same, added, none, is.some)
      | inr many ↦ omega (arith, same, added, many, is.few)
    ]

pub line_found : (old new text digits rest after : List ℕ) → text ≡ codes "image " ++ digits → ReadsBytes old new digits rest → rest ≡ 10 ∷ after
    → (length new ≡ length old → ⊥) → length new - length old ≤ 64 → ReadsLine old new text (Some after)
line_found old new text digits rest after word read end some few =
    let have = read.0 in
    let added = ap length have.added ∙ length-append old have.piece in
    let more : 0 < length have.piece = omega (arith, added, some) in (
      have.piece,
      record { some = more; few = omega (arith, added, few); each = have.each },
      have.added,
      word ∙ ap (λ (t : List ℕ). codes "image " ++ t) (have.so_far ∙ ap (λ (t : List ℕ). bytes_digits have.piece ++ t) end) ∙ sym (line_splits have.piece after),
    )
