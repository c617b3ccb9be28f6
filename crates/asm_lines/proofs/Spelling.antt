use Rattle.std.proofs.Common.{◌≡◌, ℕ, ◌||◌, not, Bool, true, false, cond, List, [], ◌∷◌, ◌++◌, ap, sym, ◌∙◌, refl, codes, append_assoc, append-nil}
use Rattle.std.specs.List.{filter, list_all}
use Rattle.std.proofs.lemmas.Bool.{and_parts}
use Rattle.script_text.specs.Lines.{onto_first}
use Rattle.script_text.specs.Words.{is_blank, has_bytes}
use Rattle.asm_lines.specs.Words.{is_mark, begins_comment, pieces, words, is_inner, is_word, ends_word}

-- Words one behind the other.

-- which way a byte goes, by the three tests
inner_way : {A : Type 0} (t u v : Bool) (x y z w : A) → not (t || u || v) ≡ true → cond t x (cond u y (cond v z w)) ≡ w
inner_way true u v x y z w h = cc
inner_way false true v x y z w h = cc
inner_way false false true x y z w h = cc
inner_way false false false x y z w h = refl

-- pieces that begin with an empty one
abbrev BeginEmpty : List (List ℕ) → Type 0
BeginEmpty ps = (more : List (List ℕ)) × (ps ≡ [] ∷ more)

outer_way : (t u v : Bool) (x y z w : List (List ℕ)) → BeginEmpty x → BeginEmpty y → BeginEmpty z → not (not (t || u || v)) ≡ true → BeginEmpty (cond t x (cond u y (cond v z w)))
outer_way true u v x y z w a b c h = a
outer_way false true v x y z w a b c h = b
outer_way false false true x y z w a b c h = c
outer_way false false false x y z w a b c h = cc

begin_empty : (rest : List ℕ) → ends_word rest ≡ true → BeginEmpty (pieces rest)
begin_empty [] h = ([], refl)
begin_empty (b ∷ bs) h =
    outer_way (begins_comment b) (is_blank b) (is_mark b) ([] ∷ []) ([] ∷ pieces bs) ([] ∷ (b ∷ []) ∷ pieces bs) (onto_first b (pieces bs))
    ([], refl) (pieces bs, refl) ((b ∷ []) ∷ pieces bs, refl) h

word_onto : (word rest : List ℕ) (more : List (List ℕ)) → list_all is_inner word ≡ true → pieces rest ≡ [] ∷ more → pieces (word ++ rest) ≡ word ∷ more
word_onto [] rest more h is = is
word_onto (b ∷ word) rest more h is =
    let parts = and_parts (is_inner b) (list_all is_inner word) h in
    inner_way (begins_comment b) (is_blank b) (is_mark b) ([] ∷ []) ([] ∷ pieces (word ++ rest)) ([] ∷ (b ∷ []) ∷ pieces (word ++ rest)) (onto_first b (pieces (word ++ rest))) parts.0
    ∙ ap (onto_first b) (word_onto word rest more parts.1 is)

kept : (word : List ℕ) (more : List (List ℕ)) → has_bytes word ≡ true → filter has_bytes (word ∷ more) ≡ word ∷ filter has_bytes more
kept word more h = ap (λ (t : Bool). cond t (word ∷ filter has_bytes more) (filter has_bytes more)) h

-- a word at the front of a text
pub word_first : (word rest : List ℕ) → is_word word ≡ true → ends_word rest ≡ true → words (word ++ rest) ≡ word ∷ words rest
unfolding words
word_first word rest h ends =
    let parts = and_parts (has_bytes word) (list_all is_inner word) h in
    let begun = begin_empty rest ends in
    ap (filter has_bytes) (word_onto word rest begun.0 parts.1 begun.1) ∙ kept word begun.0 parts.0
    ∙ ap (λ ps. word ∷ filter has_bytes ps) (sym begun.1)

pub no_words : words [] ≡ []
unfolding words
no_words = refl

blank_first : (rest : List ℕ) → words (32 ∷ rest) ≡ words rest
unfolding words
blank_first rest = refl

comma_first : (rest : List ℕ) → words (44 ∷ 32 ∷ rest) ≡ (44 ∷ []) ∷ words rest
unfolding words
comma_first rest = refl

pub word_last : (word : List ℕ) → is_word word ≡ true → words word ≡ word ∷ []
word_last word h = ap words (sym (append-nil word)) ∙ word_first word [] h refl ∙ ap (λ ws. word ∷ ws) no_words

-- a word, a comma and a text
listed : (word rest : List ℕ) (ws : List (List ℕ)) → is_word word ≡ true → words rest ≡ ws → words (word ++ codes ", " ++ rest) ≡ word ∷ codes "," ∷ ws
listed word rest ws h is =
    ap words (append_assoc word (codes ", ") rest) ∙ word_first word (codes ", " ++ rest) h refl
    ∙ ap (λ vs. word ∷ vs) (comma_first rest ∙ ap (λ vs. (44 ∷ []) ∷ vs) is)

pub words_two : (x y : List ℕ) → is_word x ≡ true → is_word y ≡ true → words (codes " " ++ x ++ codes ", " ++ y) ≡ x ∷ codes "," ∷ y ∷ []
words_two x y at_x at_y =
    blank_first (x ++ codes ", " ++ y) ∙ listed x y (y ∷ []) at_x (word_last y at_y)

pub words_three : (x y z : List ℕ) → is_word x ≡ true → is_word y ≡ true → is_word z ≡ true
    → words (codes " " ++ x ++ codes ", " ++ y ++ codes ", " ++ z) ≡ x ∷ codes "," ∷ y ∷ codes "," ∷ z ∷ []
words_three x y z at_x at_y at_z =
    ap words (append_assoc (codes " " ++ x ++ codes ", " ++ y) (codes ", ") z ∙ append_assoc (codes " " ++ x ++ codes ", ") y (codes ", " ++ z)
    ∙ ap (λ bs. codes " " ++ x ++ codes ", " ++ bs) (sym (append_assoc y (codes ", ") z)))
    ∙ blank_first (x ++ codes ", " ++ (y ++ codes ", " ++ z))
    ∙ listed x (y ++ codes ", " ++ z) (y ∷ codes "," ∷ z ∷ []) at_x (listed y z (z ∷ []) at_y (word_last z at_z))
