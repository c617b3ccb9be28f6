use Rattle.std.proofs.Common.{◌≡◌, ℕ, ◌==◌, ◌&&◌, Bool, true, false, cond, List, [], ◌∷◌, length, get_or, ap, sym, ◌∙◌, refl, Some}
use Rattle.std.specs.Prelude.{find, nat_eq}
use Rattle.std.specs.List.{filter}
use Rattle.std.proofs.lemmas.Bool.{eq-eqb, eqb-true, and_parts, and_from}
use Rattle.rv_decode.specs.declared.names.Name.{Name}
use Rattle.rv_decode.specs.Table.{text_of}
use Rattle.asm_lines.specs.Kinds.{is_text, base_names, name_word}

-- A search among those alone that may pass.

narrowed : {A : Type 0} (test may : A → Bool) (xs : List A) → ((x : A) → test x ≡ true → may x ≡ true) → find test (filter may xs) ≡ find test xs
narrowed test may [] h = refl
narrowed test may (x ∷ xs) h = by (test x) (may x) refl (h x) (narrowed test may xs h)
  where
    by : (t m : Bool) → test x ≡ t → (t ≡ true → m ≡ true) → find test (filter may xs) ≡ find test xs
        → find test (cond m (x ∷ filter may xs) (filter may xs)) ≡ cond (test x) (Some x) (find test xs)
    by t true is all more = ap (cond (test x) (Some x)) more
    by true false is all more = let no = all refl in cc
    by false false is all more = more ∙ sym (ap (λ (u : Bool). cond u (Some x) (find test xs)) is)

same_text : (word text : List ℕ) → is_text word text ≡ true → word ≡ text
same_text [] [] h = refl
same_text [] (b ∷ text) h = cc
same_text (a ∷ word) [] h = cc
same_text (a ∷ word) (b ∷ text) h =
    let parts = and_parts (nat_eq a b) (is_text word text) h in
    λ i. eqb-true a b parts.0 i ∷ same_text word text parts.1 i

-- among the names that begin with a letter
pub by_letter : (word : List ℕ) (letter : ℕ) (names : List Name) → get_or word 0 0 ≡ letter → filter (λ n. get_or (text_of n) 0 0 == letter) base_names ≡ names
    → find (λ n. is_text word (text_of n)) names ≡ name_word word
unfolding name_word
by_letter word letter names first is =
    ap (find (λ n. is_text word (text_of n))) (sym is)
    ∙ narrowed (λ n. is_text word (text_of n)) (λ n. get_or (text_of n) 0 0 == letter) base_names
    (λ n same. eq-eqb (get_or (text_of n) 0 0) letter (sym (ap (λ (t : List ℕ). get_or t 0 0) (same_text word (text_of n) same)) ∙ first))

-- among those of a length
pub by_length : (word : List ℕ) (letter len : ℕ) (names : List Name) → get_or word 0 0 ≡ letter → length word ≡ len
    → filter (λ n. get_or (text_of n) 0 0 == letter && length (text_of n) == len) base_names ≡ names
    → find (λ n. is_text word (text_of n)) names ≡ name_word word
unfolding name_word
by_length word letter len names first long is =
    ap (find (λ n. is_text word (text_of n))) (sym is)
    ∙ narrowed (λ n. is_text word (text_of n)) (λ n. get_or (text_of n) 0 0 == letter && length (text_of n) == len) base_names
    (λ n same.
    let t = same_text word (text_of n) same in
    and_from (get_or (text_of n) 0 0 == letter) (length (text_of n) == len)
    (eq-eqb _ letter (sym (ap (λ (bs : List ℕ). get_or bs 0 0) t) ∙ first)) (eq-eqb _ len (sym (ap (λ (bs : List ℕ). length bs) t) ∙ long)))

-- among all of them
pub by_none : (word : List ℕ) → find (λ n. is_text word (text_of n)) base_names ≡ name_word word
unfolding name_word
by_none word = refl
