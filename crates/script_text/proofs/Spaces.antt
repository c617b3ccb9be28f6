use Rattle.std.proofs.Common.{◌≡◌, ℕ, Bool, true, false, cond, List, [], ◌∷◌, ◌++◌, length, take, drop, get_or, ap, sym, ◌∙◌, subst, refl, arith, take_all, take-append-drop, drop-cons, length-drop, append-nil, ◌<◌, ◌≤◌, ◌-◌}
use Rattle.std.specs.List.{list_any, list_all, filter}
use Rattle.std.proofs.lemmas.Bool.{and_parts, or_parts, and_from}
use Rattle.script_text.specs.Lines.{onto_first}
use Rattle.script_text.specs.Words.{is_blank, between_blanks, has_bytes, words_of, begins_blank, ends_word}

-- Words, by the blanks around them.

pub words_behind : (blanks rest : List ℕ) → list_all is_blank blanks ≡ true → words_of (blanks ++ rest) ≡ words_of rest
words_behind [] rest h = refl
words_behind (b ∷ blanks) rest h =
    let parts = and_parts (is_blank b) (list_all is_blank blanks) h in
    ap (λ (t : Bool). filter has_bytes (cond t ([] ∷ between_blanks (blanks ++ rest)) (onto_first b (between_blanks (blanks ++ rest))))) parts.0
    ∙ words_behind blanks rest parts.1

word_between : (word rest : List ℕ) (b : ℕ) → list_any is_blank word ≡ false → is_blank b ≡ true
    → between_blanks (word ++ b ∷ rest) ≡ word ∷ between_blanks rest
word_between [] rest b h ends = ap (λ (t : Bool). cond t ([] ∷ between_blanks rest) (onto_first b (between_blanks rest))) ends
word_between (c ∷ word) rest b h ends =
    let parts = or_parts (is_blank c) (list_any is_blank word) h in
    ap (λ (t : Bool). cond t ([] ∷ between_blanks (word ++ b ∷ rest)) (onto_first c (between_blanks (word ++ b ∷ rest)))) parts.0
    ∙ ap (onto_first c) (word_between word rest b parts.1 ends)

word_last : (word : List ℕ) → list_any is_blank word ≡ false → between_blanks word ≡ word ∷ []
word_last [] h = refl
word_last (c ∷ word) h =
    let parts = or_parts (is_blank c) (list_any is_blank word) h in
    ap (λ (t : Bool). cond t ([] ∷ between_blanks word) (onto_first c (between_blanks word))) parts.0
    ∙ ap (onto_first c) (word_last word parts.1)

kept : (word : List ℕ) (words : List (List ℕ)) → has_bytes word ≡ true → filter has_bytes (word ∷ words) ≡ word ∷ filter has_bytes words
kept word words h = ap (λ (t : Bool). cond t (word ∷ filter has_bytes words) (filter has_bytes words)) h

word_first : (word rest : List ℕ) → has_bytes word ≡ true → list_any is_blank word ≡ false → ends_word rest ≡ true
    → words_of (word ++ rest) ≡ word ∷ words_of rest
word_first word [] some h ends = ap words_of (append-nil word) ∙ ap (filter has_bytes) (word_last word h) ∙ kept word [] some
word_first word (b ∷ rest) some h ends =
    ap (filter has_bytes) (word_between word rest b h ends) ∙ kept word (between_blanks rest) some
    ∙ ap (λ ws. word ∷ ws) (sym (words_behind (b ∷ []) rest (and_from (is_blank b) true ends refl)))

-- a front without a blank of a text that begins with none has bytes
front_has : (word rest : List ℕ) → 0 < length (word ++ rest) → begins_blank (word ++ rest) ≡ false → ends_word rest ≡ true → has_bytes word ≡ true
front_has (b ∷ word) rest some starts ends = refl
front_has [] [] some starts ends = absurd (omega arith)
front_has [] (b ∷ rest) some starts ends = cc

-- the first word of a text, once the blanks before it are passed over
pub next_is : (text behind word rest : List ℕ) → words_of behind ≡ words_of text → begins_blank behind ≡ false → 0 < length behind → behind ≡ word ++ rest
    → list_any is_blank word ≡ false → ends_word rest ≡ true → words_of text ≡ word ∷ words_of rest
next_is text behind word rest same starts some is h ends =
    let has = front_has word rest (subst (λ (bs : List ℕ). 0 < length bs) is some) (ap begins_blank (sym is) ∙ starts) ends in
    sym same ∙ ap words_of is ∙ word_first word rest has h ends

pub none_left : (text behind : List ℕ) → words_of behind ≡ words_of text → length behind ≡ 0 → words_of text ≡ []
none_left text [] same none = sym same
none_left text (b ∷ behind) same none = absurd (omega arith)

-- the part of a text from a place on
pub part_from : (text : List ℕ) (i : ℕ) → take (length text - i) (drop i text) ≡ drop i text
part_from text i = take_all (length text - i) (drop i text) (omega (arith, length-drop i text))

pub words_from : (text : List ℕ) (i : ℕ) → list_all is_blank (take i text) ≡ true → words_of (take (length text - i) (drop i text)) ≡ words_of text
words_from text i h =
    ap words_of (part_from text i) ∙ sym (words_behind (take i text) (drop i text) h) ∙ ap words_of (take-append-drop i text)

pub ends_at : (text : List ℕ) (i : ℕ) → i < length text → ends_word (take (length text - i) (drop i text)) ≡ is_blank (get_or text i 0)
ends_at text i below = ap ends_word (part_from text i ∙ drop-cons text i 0 below)

pub all_blank : (text : List ℕ) (i : ℕ) → length text ≤ i → list_all is_blank (take i text) ≡ true → words_of text ≡ []
all_blank text i over h =
    ap words_of (sym (append-nil text)) ∙ words_behind text [] (sym (ap (λ (bs : List ℕ). list_all is_blank bs) (take_all i text over)) ∙ h)
