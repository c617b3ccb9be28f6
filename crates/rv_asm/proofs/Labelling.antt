use Rattle.std.proofs.Common.{◌≡◌, ℕ, ◌+◌, ◌==◌, ◌≤◌, not, Bool, true, false, cond, List, [], ◌∷◌, ◌++◌, length, map, ap, sym, ◌∙◌, refl, arith, Some, None, Ok, Err}
use Rattle.std.specs.Prelude.{Result, nat_eq}
use Rattle.std.specs.Borrow.{Bor}
use mir.Val.{bool_byte}
use Rattle.std.specs.Map.{lookup}
use lib.Pointwise.{pointwise}
use Rattle.indexmap.specs.IndexMap.{insert_entry}
use Rattle.script_text.specs.Lines.{script_lines, without_return}
use Rattle.asm_lines.specs.Words.{words}
use Rattle.asm_lines.specs.Lines.{Front, front_of, lines_in}
use Rattle.rv_asm.specs.declared.error.AsmError.{AsmError}
use Rattle.rv_asm.specs.declared.error.AsmError.TheVariants.{Twice, Memory}
use Rattle.rv_asm.specs.Labels.{place_of, item_count, put_label, with_label, and_then_labels, labels_from, labels_of}
use Rattle.rv_asm.specs.Given.{said_labels, RefusesLabels}

-- The lines of a text, one by one.

pub lines_next : (rest line left : List ℕ) → script_lines rest ≡ line ∷ script_lines left → lines_in rest ≡ words (without_return line) ∷ lines_in left
unfolding lines_in
lines_next rest line left h = ap (map (λ line. words (without_return line))) h

pub no_lines : (rest : List ℕ) → length rest ≡ 0 → lines_in rest ≡ []
unfolding lines_in
no_lines [] h = refl
no_lines (b ∷ rest) h = absurd (omega arith)

-- The labels in the map.

abbrev same_bytes : Bor (List ℕ) → Bor (List ℕ) → Bool
same_bytes x y = pointwise nat_eq x.now y.now

pub label_found : (entries : List (Bor (List ℕ) × ℕ)) (name : Bor (List ℕ)) → lookup (same_bytes name) entries ≡ place_of (said_labels entries) name.now
label_found [] name = refl
label_found (e ∷ entries) name = ap (cond (same_bytes name e.0) (Some e.1)) (label_found entries name)

label_new : (entries : List (Bor (List ℕ) × ℕ)) (name : Bor (List ℕ)) (n : ℕ) → lookup (same_bytes name) entries ≡ None
    → said_labels (insert_entry same_bytes entries name n) ≡ said_labels entries ++ (name.now, n) ∷ []
label_new [] name n h = refl
label_new (e ∷ entries) name n h = by (same_bytes name e.0) h (label_new entries name n)
  where
    by : (t : Bool) → cond t (Some e.1) (lookup (same_bytes name) entries) ≡ None
        → (lookup (same_bytes name) entries ≡ None → said_labels (insert_entry same_bytes entries name n) ≡ said_labels entries ++ (name.now, n) ∷ [])
        → said_labels (cond t ((e.0, n) ∷ entries) (e ∷ insert_entry same_bytes entries name n)) ≡ (e.0.now, e.1) ∷ said_labels entries ++ (name.now, n) ∷ []
    by true h more = cc
    by false h more = ap (λ ls. (e.0.now, e.1) ∷ ls) (more h)

-- a label that is put, and one that stands there
pub put_new : (k n : ℕ) (entries new : List (Bor (List ℕ) × ℕ)) (name : Bor (List ℕ)) → new ≡ insert_entry same_bytes entries name n → None ≡ lookup (same_bytes name) entries
    → with_label k n (said_labels entries) (Some name.now) ≡ Ok (said_labels new)
put_new k n entries new name put none =
    ap (put_label k n (said_labels entries) name.now) (sym (label_found entries name) ∙ sym none)
    ∙ ap Ok (sym (ap said_labels put ∙ label_new entries name n (sym none)))

pub put_twice : (k n v : ℕ) (entries : List (Bor (List ℕ) × ℕ)) (name : Bor (List ℕ)) → Some v ≡ lookup (same_bytes name) entries
    → with_label k n (said_labels entries) (Some name.now) ≡ Err k
put_twice k n v entries name found =
    ap (put_label k n (said_labels entries) name.now) (sym (label_found entries name) ∙ sym found)

-- how many items a line has, as the code counts
pub counted : (f : Front) (b : Bool) → b ≡ not (length f.item == 0) → bool_byte b ≡ item_count f
counted f b is = ap bool_byte is ∙ by (length f.item == 0)
  where
    by : (t : Bool) → bool_byte (not t) ≡ cond t 0 1
    by true = refl
    by false = refl

pub few_items : (b : Bool) → bool_byte b ≤ 1
few_items true = omega arith
few_items false = omega arith

-- The labels of lines, one by one.

pub none_labelled : (text : List ℕ) (labels : List (List ℕ × ℕ)) → labels ≡ [] → labels_of (lines_in text) ≡ labels_from 1 0 labels (lines_in text)
unfolding labels_of
none_labelled text labels none = ap (λ ls. labels_from 1 0 ls (lines_in text)) (sym none)

next_labelled : (rest line left : List ℕ) (k n : ℕ) (labels : List (List ℕ × ℕ)) (f : Front) → script_lines rest ≡ line ∷ script_lines left
    → f ≡ front_of (words (without_return line))
    → labels_from k n labels (lines_in rest) ≡ and_then_labels (with_label k n labels f.label) (λ more. labels_from (k + 1) (n + item_count f) more (lines_in left))
next_labelled rest line left k n labels f lines is =
    ap (labels_from k n labels) (lines_next rest line left lines)
    ∙ ap (λ g. and_then_labels (with_label k n labels g.label) (λ more. labels_from (k + 1) (n + item_count g) more (lines_in left))) (sym is)

pub line_labelled : (r : Result (List (List ℕ × ℕ)) ℕ) (rest line left : List ℕ) (k n m : ℕ) (labels new : List (List ℕ × ℕ)) (f : Front)
    → r ≡ labels_from k n labels (lines_in rest) → script_lines rest ≡ line ∷ script_lines left → f ≡ front_of (words (without_return line))
    → with_label k n labels f.label ≡ Ok new → m ≡ n + item_count f → r ≡ labels_from (k + 1) m new (lines_in left)
line_labelled r rest line left k n m labels new f so_far lines is put count =
    so_far ∙ next_labelled rest line left k n labels f lines is
    ∙ ap (λ o. and_then_labels o (λ more. labels_from (k + 1) (n + item_count f) more (lines_in left))) put
    ∙ ap (λ m. labels_from (k + 1) m new (lines_in left)) (sym count)

twice_labelled : (r : Result (List (List ℕ × ℕ)) ℕ) (rest line left : List ℕ) (k n j : ℕ) (labels : List (List ℕ × ℕ)) (f : Front)
    → r ≡ labels_from k n labels (lines_in rest) → script_lines rest ≡ line ∷ script_lines left → f ≡ front_of (words (without_return line))
    → with_label k n labels f.label ≡ Err j → r ≡ Err j
twice_labelled r rest line left k n j labels f so_far lines is put =
    so_far ∙ next_labelled rest line left k n labels f lines is
    ∙ ap (λ o. and_then_labels o (λ more. labels_from (k + 1) (n + item_count f) more (lines_in left))) put

pub refused_labelled : (r : Result (List (List ℕ × ℕ)) ℕ) (rest line left : List ℕ) (k n : ℕ) (labels : List (List ℕ × ℕ)) (f : Front)
    → r ≡ labels_from k n labels (lines_in rest) → script_lines rest ≡ line ∷ script_lines left → f ≡ front_of (words (without_return line))
    → (e : AsmError) → RefusesLabels (with_label k n labels f.label) e → RefusesLabels r e
refused_labelled r rest line left k n labels f so_far lines is (Twice j) put = twice_labelled r rest line left k n j labels f so_far lines is put
refused_labelled r rest line left k n labels f so_far lines is Memory put = tt
refused_labelled r rest line left k n labels f so_far lines is _ put = absurd put

pub all_labelled : (r : Result (List (List ℕ × ℕ)) ℕ) (rest : List ℕ) (k n : ℕ) (labels : List (List ℕ × ℕ)) → r ≡ labels_from k n labels (lines_in rest) → length rest ≡ 0 → r ≡ Ok labels
all_labelled r rest k n labels so_far none = so_far ∙ ap (labels_from k n labels) (no_lines rest none)
