use Rattle.std.proofs.Common.{◌≡◌, ℕ, ◌+◌, ◌==◌, ◌&&◌, ◌||◌, not, Bool, true, false, cond, List, [], ◌∷◌, map, ap, ◌∙◌, refl, Some, None, Ok}
use Rattle.std.specs.List.{list_all, list_any, filter}
use Rattle.std.proofs.lemmas.Bool.{and_parts, and_from, or_parts, or_from, not-true}
use Rattle.script_text.specs.Lines.{onto_first, script_lines, without_return}
use Rattle.script_text.specs.Words.{is_blank, has_bytes}
use Rattle.asm_lines.specs.Words.{is_mark, begins_comment, pieces, words}
use Rattle.asm_lines.specs.Kinds.{is_text}
use Rattle.asm_lines.specs.Lines.{front, front_of, is_colon, lines_in}
use Rattle.rv_asm.specs.Labels.{item_count, with_label, and_then_labels, labels_from, labels_of}

-- A text without a colon has no label.

abbrev has_colon : List ℕ → Bool
has_colon bytes = list_any (λ b. b == 58) bytes

-- whether none of some texts has one
abbrev none_has : List (List ℕ) → Bool
none_has texts = list_all (λ bytes. not (has_colon bytes)) texts

onto_none : (b : ℕ) (ps : List (List ℕ)) → (b == 58) ≡ false → none_has ps ≡ true → none_has (onto_first b ps) ≡ true
onto_none b [] one h = ap (λ (t : Bool). not (t || false) && true) one
onto_none b (p ∷ ps) one h = ap (λ (t : Bool). not (t || has_colon p) && none_has ps) one ∙ h

lines_none : (text : List ℕ) → has_colon text ≡ false → none_has (script_lines text) ≡ true
lines_none [] h = refl
lines_none (b ∷ bs) h =
    let parts = or_parts (b == 58) (has_colon bs) h in
    by (b == 10) (lines_none bs parts.1) parts.0
  where
    by : (t : Bool) → none_has (script_lines bs) ≡ true → (b == 58) ≡ false → none_has (cond t ([] ∷ script_lines bs) (onto_first b (script_lines bs))) ≡ true
    by true more one = more
    by false more one = onto_none b (script_lines bs) one more

return_none : (line : List ℕ) → has_colon line ≡ false → has_colon (without_return line) ≡ false
return_none [] h = refl
return_none (b ∷ []) h = by (b == 13)
  where
    by : (t : Bool) → has_colon (cond t [] (b ∷ [])) ≡ false
    by true = refl
    by false = h
return_none (b ∷ c ∷ line) h =
    let parts = or_parts (b == 58) (has_colon (c ∷ line)) h in
    or_from (b == 58) (has_colon (without_return (c ∷ line))) parts.0 (return_none (c ∷ line) parts.1)

pieces_none : (line : List ℕ) → has_colon line ≡ false → none_has (pieces line) ≡ true
pieces_none [] h = refl
pieces_none (b ∷ bs) h =
    let parts = or_parts (b == 58) (has_colon bs) h in
    by (begins_comment b) (is_blank b) (is_mark b) (pieces_none bs parts.1) parts.0
  where
    by : (t u v : Bool) → none_has (pieces bs) ≡ true → (b == 58) ≡ false
        → none_has (cond t ([] ∷ []) (cond u ([] ∷ pieces bs) (cond v ([] ∷ (b ∷ []) ∷ pieces bs) (onto_first b (pieces bs))))) ≡ true
    by true u v more one = refl
    by false true v more one = more
    by false false true more one = ap (λ (t : Bool). not (t || false) && none_has (pieces bs)) one ∙ more
    by false false false more one = onto_none b (pieces bs) one more

kept_none : (texts : List (List ℕ)) → none_has texts ≡ true → none_has (filter has_bytes texts) ≡ true
kept_none [] h = refl
kept_none (t ∷ texts) h =
    let parts = and_parts (not (has_colon t)) (none_has texts) h in
    by (has_bytes t) (kept_none texts parts.1) parts.0
  where
    by : (k : Bool) → none_has (filter has_bytes texts) ≡ true → not (has_colon t) ≡ true → none_has (cond k (t ∷ filter has_bytes texts) (filter has_bytes texts)) ≡ true
    by true more one = and_from (not (has_colon t)) (none_has (filter has_bytes texts)) one more
    by false more one = more

words_none : (line : List ℕ) → has_colon line ≡ false → none_has (words line) ≡ true
unfolding words
words_none line h = kept_none (pieces line) (pieces_none line h)

no_colon : (word : List ℕ) → has_colon word ≡ false → is_colon word ≡ false
no_colon [] h = refl
no_colon (b ∷ word) h = ap (λ (t : Bool). t && is_text word []) (or_parts (b == 58) (has_colon word) h).0

front_none : (ws : List (List ℕ)) → none_has ws ≡ true → (front_of ws).label ≡ None
unfolding front_of
front_none [] h = refl
front_none (w ∷ []) h = refl
front_none (w ∷ c ∷ ws) h =
    let second = (and_parts (not (has_colon c)) (none_has ws) (and_parts (not (has_colon w)) (none_has (c ∷ ws)) h).1).0 in
    ap (λ (t : Bool). (cond t (front (Some w) ws) (front None (w ∷ c ∷ ws))).label) (no_colon c (not-true (has_colon c) second))

none_from : (k n : ℕ) (lines : List (List ℕ)) → none_has lines ≡ true → labels_from k n [] (map (λ line. words (without_return line)) lines) ≡ Ok []
none_from k n [] h = refl
none_from k n (line ∷ lines) h =
    let parts = and_parts (not (has_colon line)) (none_has lines) h in
    let ws = words (without_return line) in
    ap (λ l. and_then_labels (with_label k n [] l) (λ more. labels_from (k + 1) (n + item_count (front_of ws)) more (map (λ line. words (without_return line)) lines)))
    (front_none ws (words_none (without_return line) (return_none line (not-true (has_colon line) parts.0))))
    ∙ none_from (k + 1) (n + item_count (front_of ws)) lines parts.1

pub unlabelled : (text : List ℕ) → list_any (λ b. b == 58) text ≡ false → labels_of (lines_in text) ≡ Ok []
unfolding labels_of lines_in
unlabelled text h = none_from 1 0 (script_lines text) (lines_none text h)
