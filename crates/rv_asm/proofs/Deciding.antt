use Rattle.std.proofs.Common.{◌≡◌, ℕ, ◌*◌, ◌<◌, ◌≤◌, ◌==◌, nat_lt, Bool, true, false, cond, List, [], ◌∷◌, length, ap, sym, ◌∙◌, refl, arith, subst, Some, None, Ok, Err}
use Rattle.std.specs.Prelude.{Option, Result, IfOk}
use Rattle.std.specs.Option.{option_map, option_or}
use Rattle.std.proofs.lemmas.Bool.{eqb-false, ltb-false}
use Rattle.asm_lines.specs.Lines.{lines_in}
use Rattle.rv_asm.specs.declared.code.Coded.{Coded}
use Rattle.rv_asm.specs.declared.error.AsmError.{AsmError}
use Rattle.rv_asm.specs.declared.error.AsmError.TheVariants.{BadLine, Twice, NoLabel, OutOfReach, Empty, TooMany, Memory}
use Rattle.rv_asm.specs.declared.outcomes.Outcome.{Outcome}
use Rattle.rv_asm.specs.declared.outcomes.Outcome.TheVariants.{Word, Missing, Far}
use Rattle.rv_asm.specs.Labels.{labels_of}
use Rattle.rv_asm.specs.Outcomes.{outcomes_of, first_missing, first_far, words_in}
use Rattle.rv_asm.specs.File.{file_with, file_of, IsLoaded}
use Rattle.rv_asm.specs.Assembly.{first_outside, count_refusal, refusal, or_words, words_by, words_of, file_by, assembled, Is, IsFileOf}
use Rattle.rv_asm.specs.Given.{RefusesLabels, IsCoded, Codes, IsWithin, finished, Finishes, outside_error}
use Rattle.rv_asm.proofs.Loading.{code_length, words_loaded}

-- The answers of assembling.

-- what is assembled of a text without a line outside
abbrev pub told : Result (List (List ℕ × ℕ)) ℕ → List (List (List ℕ)) → Result (List ℕ) AsmError
told labels lines = file_by (words_by None labels lines)

pub told_is : (text : List ℕ) → first_outside (lines_in text) ≡ None → assembled text ≡ told (labels_of (lines_in text)) (lines_in text)
unfolding assembled words_of
told_is text inside = ap (λ o. file_by (words_by o (labels_of (lines_in text)) (lines_in text))) inside

pub outside_is : (text : List ℕ) (k : ℕ) → first_outside (lines_in text) ≡ Some k → assembled text ≡ Err (BadLine k)
unfolding assembled words_of
outside_is text k out = ap (λ o. file_by (words_by o (labels_of (lines_in text)) (lines_in text))) out

-- where the labels were refused
pub labels_refused : {V : Type 0} (view : V → List ℕ) (text : List ℕ) (e : AsmError) → RefusesLabels (labels_of (lines_in text)) e → IsWithin view text (Err e)
labels_refused view text e refuses = record { file = λ inside. by e refuses inside; inside = tt }
  where
    by : (e : AsmError) → RefusesLabels (labels_of (lines_in text)) e → first_outside (lines_in text) ≡ None → Is view (assembled text) (Err e)
    by (Twice k) h inside = told_is text inside ∙ ap (λ r. told r (lines_in text)) h
    by Memory h inside = tt
    by _ h inside = absurd h

-- what is told of items
abbrev pub told_of : List (ℕ × Outcome) → Result (List ℕ) AsmError
told_of os = file_by (or_words (refusal os) (words_in os))

told_labelled : (text : List ℕ) (labels : List (List ℕ × ℕ)) → labels_of (lines_in text) ≡ Ok labels → first_outside (lines_in text) ≡ None
    → assembled text ≡ told_of (outcomes_of labels (lines_in text))
told_labelled text labels is inside = told_is text inside ∙ ap (λ r. told r (lines_in text)) is

missing_refused : (os : List (ℕ × Outcome)) (k : ℕ) → first_missing os ≡ Some k → told_of os ≡ Err (NoLabel k)
missing_refused os k h =
    ap (λ o. file_by (or_words (option_or (option_map NoLabel o) (option_or (option_map OutOfReach (first_far os)) (count_refusal (length os)))) (words_in os))) h

-- where a label wasn't there
pub code_refused : {V : Type 0} (view : V → List ℕ) (text : List ℕ) (labels : List (List ℕ × ℕ)) (e : AsmError) → labels_of (lines_in text) ≡ Ok labels
    → Codes labels (lines_in text) (Err e) → IsWithin view text (Err e)
code_refused view text labels e is codes = record { file = λ inside. by e codes inside; inside = tt }
  where
    by : (e : AsmError) → Codes labels (lines_in text) (Err e) → first_outside (lines_in text) ≡ None → Is view (assembled text) (Err e)
    by (BadLine k) h inside = let out : None ≡ Some k = sym inside ∙ h in cc
    by (NoLabel k) h inside = told_labelled text labels is inside ∙ missing_refused (outcomes_of labels (lines_in text)) k h
    by Memory h inside = tt
    by _ h inside = absurd h

-- where all labels are there, each item has a word or is out of reach
as_many : (os : List (ℕ × Outcome)) → first_missing os ≡ None → first_far os ≡ None → length (words_in os) ≡ length os
as_many [] there near = refl
as_many ((k, Word w) ∷ os) there near = omega (arith, as_many os there near)
as_many ((k, Missing) ∷ os) there near = cc
as_many ((k, Far) ∷ os) there near = cc

count_few : (n : ℕ) → count_refusal n ≡ None → (0 < n) × (n ≤ 65536)
count_few n h = by (n == 0) (nat_lt 65536 n) refl refl h
  where
    by : (t u : Bool) → (n == 0) ≡ t → nat_lt 65536 n ≡ u → cond t (Some Empty) (cond u (Some TooMany) None) ≡ None → (0 < n) × (n ≤ 65536)
    by true u is_t is_u h = cc
    by false true is_t is_u h = cc
    by false false is_t is_u h = let some = eqb-false n 0 is_t in (omega (arith, some), ltb-false 65536 n is_u)

none_or : (far : Option ℕ) (more : Option AsmError) → option_or (option_map OutOfReach far) more ≡ None → (far ≡ None) × (more ≡ None)
none_or None more h = (refl, h)
none_or (Some k) more h = cc

-- what is finished is what is told
module _ (os : List (ℕ × Outcome)) (c : Coded) (coded : IsCoded os c) where
  abbrev left : Option AsmError
  left = option_or (option_map OutOfReach c.far) (count_refusal c.items)

  refused : option_or (option_map OutOfReach (first_far os)) (count_refusal (length os)) ≡ left
  refused = λ i. option_or (option_map OutOfReach (sym coded.far i)) (count_refusal (sym coded.count i))

  file : c.items ≤ 65536 → file_of (words_in os) ≡ file_with (length c.code.items) c.code.items
  unfolding file_of
  file small =
      let code = coded.code small in
      let size : 4 * length (words_in os) ≡ length c.code.items = sym (code_length (words_in os)) ∙ ap (λ (bs : List ℕ). length bs) (sym code) in
      λ i. file_with (size i) (sym code i)

  by_refusal : (r : Option AsmError) → left ≡ r → file_by (or_words r (words_in os)) ≡ finished r c.code.items
  by_refusal None h = ap Ok (file (count_few c.items (none_or c.far (count_refusal c.items) h).1).1)
  by_refusal (Some e) h = refl

  told_coded : told_of os ≡ finished left c.code.items
  told_coded =
      ap (λ o. file_by (or_words (option_or (option_map NoLabel o) (option_or (option_map OutOfReach (first_far os)) (count_refusal (length os)))) (words_in os))) coded.missing
      ∙ ap (λ r. file_by (or_words r (words_in os))) refused ∙ by_refusal left refl

inside_all : {V : Type 0} (text : List ℕ) (r : Result V AsmError) → first_outside (lines_in text) ≡ None → IfOk r (λ v. first_outside (lines_in text) ≡ None)
inside_all text (Ok v) h = h
inside_all text (Err e) h = tt

pub code_finished : {V : Type 0} (view : V → List ℕ) (text : List ℕ) (labels : List (List ℕ × ℕ)) (c : Coded) (r : Result V AsmError) → labels_of (lines_in text) ≡ Ok labels
    → Codes labels (lines_in text) (Ok c) → Finishes view c r → IsWithin view text r
code_finished view text labels c r is codes finishes = record {
  file = λ inside. subst (λ x. Is view x r) (sym (told_labelled text labels is inside ∙ told_coded (outcomes_of labels (lines_in text)) c codes.1)) finishes;
  inside = inside_all text r codes.0;
}

pub told_file : {V : Type 0} (view : V → List ℕ) (text : List ℕ) (v : V) → IsWithin view text (Ok v) → assembled text ≡ Ok (view v)
told_file view text v h = h.file h.inside

-- a refusal of a text, whether or not a line of it is outside
pub refused_or : {V : Type 0} (view : V → List ℕ) (text : List ℕ) (e f : AsmError) → IsWithin view text (Err e) → f ≡ outside_error (first_outside (lines_in text)) e
    → Is view (assembled text) (Err f)
refused_or view text e f h is = subst (λ g. Is view (assembled text) (Err g)) (sym is) (by (first_outside (lines_in text)) refl)
  where
    by : (o : Option ℕ) → first_outside (lines_in text) ≡ o → Is view (assembled text) (Err (outside_error o e))
    by None inside = h.file inside
    by (Some k) out = outside_is text k out

-- how many words there are
told_few : (os : List (ℕ × Outcome)) (r : Option AsmError) (ws : List ℕ) → refusal os ≡ r → or_words r (words_in os) ≡ Ok ws → (0 < length ws) × (length ws ≤ 65536)
told_few os (Some e) ws is h = cc
told_few os None ws is h = by (first_missing os) refl is
  where
    same : words_in os ≡ ws
    same = cc

    by : (missing : Option ℕ) → first_missing os ≡ missing
        → option_or (option_map NoLabel missing) (option_or (option_map OutOfReach (first_far os)) (count_refusal (length os))) ≡ None → (0 < length ws) × (length ws ≤ 65536)
    by (Some k) there left = cc
    by None there left =
        let near = none_or (first_far os) (count_refusal (length os)) left in
        let few = count_few (length os) near.1 in
        let many = sym (ap (λ (bs : List ℕ). length bs) same) ∙ as_many os there near.0 in
        (omega (arith, many, few.0), omega (arith, many, few.1))

words_few : (o : Option ℕ) (labels : Result (List (List ℕ × ℕ)) ℕ) (lines : List (List (List ℕ))) (ws : List ℕ) → words_by o labels lines ≡ Ok ws → (0 < length ws) × (length ws ≤ 65536)
words_few (Some k) labels lines ws h = cc
words_few None (Err k) lines ws h = cc
words_few None (Ok labels) lines ws h = told_few (outcomes_of labels lines) (refusal (outcomes_of labels lines)) ws refl h

text_few : (text ws : List ℕ) → words_of text ≡ Ok ws → (0 < length ws) × (length ws ≤ 65536)
unfolding words_of
text_few text ws is = words_few (first_outside (lines_in text)) (labels_of (lines_in text)) (lines_in text) ws is

-- the file of a text
pub file_is : (text file : List ℕ) → assembled text ≡ Ok file → IsFileOf text file
unfolding assembled
file_is text file h = by (words_of text) refl h
  where
    by : (r : Result (List ℕ) AsmError) → words_of text ≡ r → file_by r ≡ Ok file → IsFileOf text file
    by (Err e) is h = cc
    by (Ok ws) is h =
        let same : file_of ws ≡ file = cc in
        let bounds = text_few text ws is in
        record { words = ws; of_text = is; loaded = subst (IsLoaded ws) same (words_loaded ws bounds.0 bounds.1) }
