use Rattle.std.proofs.Common.{◌≡◌, ℕ, zero, suc, ◌<◌, ◌≤◌, ◌-◌, ◌||◌, not, Bool, true, false, cond, List, [], ◌∷◌, ◌++◌, length, take, drop, get_or, ap, sym, ◌∙◌, refl, arith, take_all, take-append-drop, drop-cons, length-drop, append-nil}
use Rattle.std.specs.List.{filter, list_all}
use Rattle.std.proofs.lemmas.Bool.{and_parts, and_from}
use Rattle.std.proofs.lemmas.Bool.Decides.{nat_tests}
use Rattle.script_text.specs.Lines.{onto_first}
use Rattle.script_text.specs.Words.{is_blank, has_bytes}
use Rattle.asm_lines.specs.Words.{is_mark, begins_comment, pieces, words, is_inner, ends_word, begins_word}
use Rattle.asm_lines.proofs.Spelling.{word_first, word_last, no_words}

-- The first word of a text, by places in it.

-- which way a byte goes, by the three tests
mark_way : {A : Type 0} (t u v : Bool) (x y z w : A) → not (t || u) ≡ true → v ≡ true → cond t x (cond u y (cond v z w)) ≡ z
mark_way true u v x y z w h m = cc
mark_way false true v x y z w h m = cc
mark_way false false true x y z w h m = refl
mark_way false false false x y z w h m = cc

blank_way : {A : Type 0} (t u : Bool) (x y z : A) → t ≡ false → u ≡ true → cond t x (cond u y z) ≡ y
blank_way true u x y z h b = cc
blank_way false true x y z h b = refl
blank_way false false x y z h b = cc

no_comment : (b : ℕ) → is_blank b ≡ true → begins_comment b ≡ false
no_comment b h = grind (arith, nat_tests)

words_behind : (blanks rest : List ℕ) → list_all is_blank blanks ≡ true → words (blanks ++ rest) ≡ words rest
unfolding words
words_behind [] rest h = refl
words_behind (b ∷ blanks) rest h =
    let parts = and_parts (is_blank b) (list_all is_blank blanks) h in
    let more = pieces (blanks ++ rest) in
    ap (filter has_bytes) (blank_way (begins_comment b) (is_blank b) ([] ∷ []) ([] ∷ more) (cond (is_mark b) ([] ∷ (b ∷ []) ∷ more) (onto_first b more)) (no_comment b parts.0) parts.0)
    ∙ words_behind blanks rest parts.1

part_from : (text : List ℕ) (i : ℕ) → take (length text - i) (drop i text) ≡ drop i text
part_from text i = take_all (length text - i) (drop i text) (omega (arith, length-drop i text))

drop_behind : (text : List ℕ) (i : ℕ) → list_all is_blank (take i text) ≡ true → words (drop i text) ≡ words text
drop_behind text i h = sym (words_behind (take i text) (drop i text) h) ∙ ap words (take-append-drop i text)

pub words_from : (text : List ℕ) (i : ℕ) → list_all is_blank (take i text) ≡ true → words (take (length text - i) (drop i text)) ≡ words text
words_from text i h = ap words (part_from text i) ∙ drop_behind text i h

commented : (rest : List ℕ) → words (35 ∷ rest) ≡ []
unfolding words
commented rest = refl

pub comment_left : (text : List ℕ) (i : ℕ) → i < length text → list_all is_blank (take i text) ≡ true → get_or text i 0 ≡ 35 → words text ≡ []
comment_left text i below h is =
    sym (drop_behind text i h) ∙ ap words (drop-cons text i 0 below ∙ ap (λ b. b ∷ drop (suc i) text) is) ∙ commented (drop (suc i) text)

pub all_blank : (text : List ℕ) (i : ℕ) → length text ≤ i → list_all is_blank (take i text) ≡ true → words text ≡ []
all_blank text i over h =
    ap words (sym (append-nil text)) ∙ words_behind text [] (sym (ap (λ (bs : List ℕ). list_all is_blank bs) (take_all i text over)) ∙ h) ∙ no_words

-- a mark at the front
marked : (b : ℕ) (bs : List ℕ) → not (begins_comment b || is_blank b) ≡ true → is_mark b ≡ true → words (b ∷ bs) ≡ (b ∷ []) ∷ words bs
unfolding words
marked b bs h m =
    ap (filter has_bytes) (mark_way (begins_comment b) (is_blank b) (is_mark b) ([] ∷ []) ([] ∷ pieces bs) ([] ∷ (b ∷ []) ∷ pieces bs) (onto_first b (pieces bs)) h m)

pub mark_front : (text : List ℕ) → begins_word text ≡ true → is_mark (get_or text 0 0) ≡ true → words text ≡ take 1 text ∷ words (take (length text - 1) (drop 1 text))
mark_front [] h m = cc
mark_front (b ∷ bs) h m = marked b bs h m ∙ ap (λ rest. (b ∷ []) ∷ words rest) (sym (part_from (b ∷ bs) 1))

-- a word at the front, up to a place
inner_way : (t u v : Bool) → not (t || u) ≡ true → v ≡ false → not (t || u || v) ≡ true
inner_way true u v h m = cc
inner_way false true v h m = cc
inner_way false false true h m = cc
inner_way false false false h m = refl

has_front : (text : List ℕ) (i : ℕ) → i < length text → begins_word text ≡ true → is_mark (get_or text 0 0) ≡ false → is_inner (get_or text i 0) ≡ false → has_bytes (take i text) ≡ true
has_front [] i below h m out = cc
has_front (b ∷ bs) zero below h m out = let inner = inner_way (begins_comment b) (is_blank b) (is_mark b) h m in cc
has_front (b ∷ bs) (suc i) below h m out = refl

pub word_cut : (text : List ℕ) (i : ℕ) → i < length text → begins_word text ≡ true → is_mark (get_or text 0 0) ≡ false
    → list_all is_inner (take i text) ≡ true → is_inner (get_or text i 0) ≡ false → words text ≡ take i text ∷ words (take (length text - i) (drop i text))
word_cut text i below h m all out =
    let front = and_from (has_bytes (take i text)) (list_all is_inner (take i text)) (has_front text i below h m out) all in
    let ends : ends_word (drop i text) ≡ true = ap ends_word (drop-cons text i 0 below) ∙ ap not out in
    ap words (sym (take-append-drop i text)) ∙ word_first (take i text) (drop i text) front ends
    ∙ ap (λ rest. take i text ∷ words rest) (sym (part_from text i))

has_all : (text : List ℕ) → begins_word text ≡ true → has_bytes text ≡ true
has_all [] h = h
has_all (b ∷ bs) h = refl

pub whole_word : (text : List ℕ) (i : ℕ) → length text ≤ i → begins_word text ≡ true → list_all is_inner (take i text) ≡ true → words text ≡ text ∷ words []
whole_word text i over h all =
    let inner : list_all is_inner text ≡ true = sym (ap (λ (bs : List ℕ). list_all is_inner bs) (take_all i text over)) ∙ all in
    word_last text (and_from (has_bytes text) (list_all is_inner text) (has_all text h) inner) ∙ ap (λ ws. text ∷ ws) (sym no_words)
