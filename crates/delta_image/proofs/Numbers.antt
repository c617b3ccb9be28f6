use Rattle.std.proofs.Common.{◌≡◌, ℕ, ◌^◌, ◌<◌, ◌≤◌, List, [], ◌∷◌, ◌++◌, length, take, drop, get_or, inl, inr, refl, sym, ap, ◌∙◌, arith, append_assoc}
use Rattle.std.specs.Int.{w32, w64, to_le_bytes, from_le_bytes}
use Rattle.std.specs.List.{AllByRecursion}
use Rattle.std.proofs.lemmas.Bool.{cases_lt}
use Rattle.std.proofs.lemmas.List.{take-append-drop, length-take, get_or-take, get_or_past}
use Rattle.std.proofs.lemmas.Nat.{from_le_bytes-to_le_bytes_4, from_le_bytes-to_le_bytes_8, le_bytes_4, le_bytes_8}
use Rattle.delta_image.specs.Fine.{IsWord}
use Rattle.delta_image.specs.Image.{words_part}

-- Numbers as bytes: one part is of one number.

pub one32 : (m n : ℕ) (r s : List ℕ) → m < 2 ^ 32 → n < 2 ^ 32 → to_le_bytes w32 m ++ r ≡ to_le_bytes w32 n ++ s → (m ≡ n) × (r ≡ s)
one32 m n r s one other e =
    (sym (from_le_bytes-to_le_bytes_4 m one) ∙ ap (λ (bs : List ℕ). from_le_bytes w32 (take 4 bs)) e ∙ from_le_bytes-to_le_bytes_4 n other, ap (drop 4) e)

pub one64 : (m n : ℕ) (r s : List ℕ) → IsWord m → IsWord n → to_le_bytes w64 m ++ r ≡ to_le_bytes w64 n ++ s → (m ≡ n) × (r ≡ s)
one64 m n r s one other e =
    (sym (from_le_bytes-to_le_bytes_8 m one) ∙ ap (λ (bs : List ℕ). from_le_bytes w64 (take 8 bs)) e ∙ from_le_bytes-to_le_bytes_8 n other, ap (drop 8) e)

pub one_words : (a b : List ℕ) (r s : List ℕ) → AllByRecursion IsWord a → AllByRecursion IsWord b → length a ≡ length b → words_part a ++ r ≡ words_part b ++ s
    → (a ≡ b) × (r ≡ s)
one_words [] [] r s one other long e = (refl, e)
one_words [] (y ∷ ys) r s one other long e = absurd (omega (arith, long))
one_words (x ∷ xs) [] r s one other long e = absurd (omega (arith, long))
one_words (x ∷ xs) (y ∷ ys) r s one other long e =
    let first = one64 x y (words_part xs ++ r) (words_part ys ++ s) one.0 other.0
    (sym (append_assoc (to_le_bytes w64 x) (words_part xs) r) ∙ e ∙ append_assoc (to_le_bytes w64 y) (words_part ys) s) in
    let rest = one_words xs ys r s one.1 other.1 (omega (arith, long)) first.1 in
    (λ i. first.0 i ∷ rest.0 i, rest.1)

-- behind fewer words than there are stands a word
pub word_behind : (done words : List ℕ) (r s : List ℕ) → AllByRecursion IsWord words → length done < length words → words_part done ++ r ≡ words_part words ++ s
    → (word : ℕ) × (t : List ℕ) × IsWord word × (r ≡ to_le_bytes w64 word ++ t)
word_behind done [] r s all lt e = absurd (omega (arith, lt))
word_behind [] (y ∷ ys) r s all lt e = (y, words_part ys ++ s, all.0, e ∙ append_assoc (to_le_bytes w64 y) (words_part ys) s)
word_behind (x ∷ xs) (y ∷ ys) r s all lt e = word_behind xs ys r s all.1 (omega (arith, lt)) (ap (drop 8) e)

-- Numbers that are read.

abbrev pub IsBytes : List ℕ → Type 0
IsBytes bytes = (i : ℕ) → get_or bytes i 0 < 256

bytes_taken : (n : ℕ) (bytes : List ℕ) → IsBytes bytes → IsBytes (take n bytes)
bytes_taken n bytes h i =
    elim (cases_lt i n) [
      | inl lt ↦ rw (get_or-take n bytes i 0 lt) (h i)
      | inr le ↦ rw (get_or_past (take n bytes) i 0 (omega (arith, length-take n bytes))) (omega arith)
    ]

pub read32 : (bytes number rest : List ℕ) (n : ℕ) → IsBytes bytes → 4 ≤ length bytes → number ≡ take 4 bytes → rest ≡ drop 4 bytes → n ≡ from_le_bytes w32 number
    → (n < 2 ^ 32) × (bytes ≡ to_le_bytes w32 n ++ rest)
read32 bytes number rest n fits long is behind same =
    let taken = bytes_taken 4 bytes fits in
    let value = same ∙ ap (from_le_bytes w32) is in
    let front = le_bytes_4 (take 4 bytes) n (omega (arith, length-take 4 bytes)) taken value in
    (omega (arith, value, taken 0, taken 1, taken 2, taken 3), sym (take-append-drop 4 bytes) ∙ (λ i. sym front i ++ sym behind i))

pub read64 : (bytes number rest : List ℕ) (n : ℕ) → IsBytes bytes → 8 ≤ length bytes → number ≡ take 8 bytes → rest ≡ drop 8 bytes → n ≡ from_le_bytes w64 number
    → IsWord n × (bytes ≡ to_le_bytes w64 n ++ rest)
read64 bytes number rest n fits long is behind same =
    let taken = bytes_taken 8 bytes fits in
    let value = same ∙ ap (from_le_bytes w64) is in
    let front = le_bytes_8 (take 8 bytes) n (omega (arith, length-take 8 bytes)) taken value in
    (omega (arith, value, taken 0, taken 1, taken 2, taken 3, taken 4, taken 5, taken 6, taken 7), sym (take-append-drop 8 bytes) ∙ (λ i. sym front i ++ sym behind i))

pub short32 : (bytes rest : List ℕ) (n : ℕ) → length bytes < 4 → bytes ≡ to_le_bytes w32 n ++ rest → ⊥
short32 bytes rest n short e = omega (arith, short, ap length e)

pub short64 : (bytes rest : List ℕ) (n : ℕ) → length bytes < 8 → bytes ≡ to_le_bytes w64 n ++ rest → ⊥
short64 bytes rest n short e = omega (arith, short, ap length e)
