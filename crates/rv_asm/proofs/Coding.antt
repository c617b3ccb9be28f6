use Rattle.std.proofs.Common.{◌≡◌, ℕ, ◌+◌, ◌==◌, ◌≤◌, Bool, true, false, cond, List, [], ◌∷◌, ◌++◌, length, ap, sym, ◌∙◌, refl, arith, subst, Some, None, Err, append_assoc, append-nil, length-append}
use Rattle.std.specs.Prelude.{Option}
use Rattle.std.specs.Option.{option_map, option_or}
use Rattle.std.proofs.lemmas.Bool.Decides.{nat_tests}
use Rattle.std.proofs.lemmas.Grind.{flat_map-append}
use Rattle.std.specs.Int.{to_le_bytes, w32}
use Rattle.script_text.specs.Lines.{script_lines, without_return}
use Rattle.asm_lines.specs.Words.{words}
use Rattle.asm_lines.specs.Items.{Item, item_in}
use Rattle.asm_lines.specs.Lines.{front_of, may_stand, item_at, item_on, lines_in}
use Rattle.rv_asm.specs.declared.code.Coded.{Coded}
use Rattle.rv_asm.specs.declared.error.AsmError.{AsmError}
use Rattle.rv_asm.specs.declared.error.AsmError.TheVariants.{NoLabel, Memory}
use Rattle.rv_asm.specs.declared.outcomes.Outcome.{Outcome}
use Rattle.rv_asm.specs.declared.outcomes.Outcome.TheVariants.{Word, Missing, Far}
use Rattle.rv_asm.specs.Labels.{item_count}
use Rattle.rv_asm.specs.Outcomes.{with_outcome, outcomes_from, outcomes_of, first_missing, first_far, words_in}
use Rattle.rv_asm.specs.File.{code_of}
use Rattle.rv_asm.specs.Assembly.{outside_or, outside_from, first_outside}
use Rattle.rv_asm.specs.Given.{IsCoded, IsCodedBehind, RefusesItems, Codes}
use Rattle.rv_asm.proofs.Labelling.{lines_next, no_lines}

-- What items come to, some behind others.

missing_behind : (xs ys : List (ℕ × Outcome)) → first_missing xs ≡ None → first_missing (xs ++ ys) ≡ first_missing ys
missing_behind [] ys h = refl
missing_behind ((k, Word w) ∷ xs) ys h = missing_behind xs ys h
missing_behind ((k, Missing) ∷ xs) ys h = cc
missing_behind ((k, Far) ∷ xs) ys h = missing_behind xs ys h

missing_first : (xs ys : List (ℕ × Outcome)) (j : ℕ) → first_missing xs ≡ Some j → first_missing (xs ++ ys) ≡ Some j
missing_first [] ys j h = cc
missing_first ((k, Word w) ∷ xs) ys j h = missing_first xs ys j h
missing_first ((k, Missing) ∷ xs) ys j h = h
missing_first ((k, Far) ∷ xs) ys j h = missing_first xs ys j h

far_both : (xs ys : List (ℕ × Outcome)) → first_far (xs ++ ys) ≡ option_or (first_far xs) (first_far ys)
far_both [] ys = refl
far_both ((k, Word w) ∷ xs) ys = far_both xs ys
far_both ((k, Missing) ∷ xs) ys = far_both xs ys
far_both ((k, Far) ∷ xs) ys = refl

words_both : (xs ys : List (ℕ × Outcome)) → words_in (xs ++ ys) ≡ words_in xs ++ words_in ys
words_both [] ys = refl
words_both ((k, Word w) ∷ xs) ys = ap (λ ws. w ∷ ws) (words_both xs ys)
words_both ((k, Missing) ∷ xs) ys = words_both xs ys
words_both ((k, Far) ∷ xs) ys = words_both xs ys

pub none_coded : (c : Coded) → c.far ≡ None → c.items ≡ 0 → c.code.items ≡ [] → IsCoded [] c
none_coded c far count code = record { missing = refl; far = far; count = count; code = λ few. code }

coded_more : (os ps : List (ℕ × Outcome)) (c d : Coded) → IsCoded os c → IsCodedBehind ps c d → IsCoded (os ++ ps) d
coded_more os ps c d a b = record {
  missing = missing_behind os ps a.missing ∙ b.missing;
  far = b.far ∙ ap (λ o. option_or o (first_far ps)) a.far ∙ sym (far_both os ps);
  count = omega (arith, a.count, b.count, length-append os ps);
  code = λ few.
      b.code few ∙ ap (λ bs. bs ++ code_of (words_in ps)) (a.code (omega (arith, few, b.count)))
      ∙ sym (ap code_of (words_both os ps) ∙ flat_map-append (to_le_bytes w32) (words_in os) (words_in ps));
}

-- Lines, one by one. What is known where the outcomes so far are taken in, and `rest` are left.
pub record AreTaken (all rest : List (ℕ × Outcome)) (c : Coded) : Type 0 where
  pub done : List (ℕ × Outcome)
  pub whole : all ≡ done ++ rest
  pub coded : IsCoded done c

pub none_taken : (labels : List (List ℕ × ℕ)) (text : List ℕ) (c : Coded) → IsCoded [] c → c.items ≡ 0
    → AreTaken (outcomes_of labels (lines_in text)) (outcomes_from labels 1 c.items (lines_in text)) c
unfolding outcomes_of
none_taken labels text c coded none = record { done = []; whole = ap (λ n. outcomes_from labels 1 n (lines_in text)) (sym none); coded = coded }

pub none_outside : (text : List ℕ) → first_outside (lines_in text) ≡ outside_from 1 (lines_in text)
unfolding first_outside
none_outside text = refl

-- a line has as many items as are taken in of it
count_at : (labels : List (List ℕ × ℕ)) (k n : ℕ) (ws : List (List ℕ)) (o : Option Item) → item_at ws ≡ Some o
    → cond (length ws == 0) 0 1 ≡ length (with_outcome labels k n (Some o) [])
count_at labels k n [] None h = refl
count_at labels k n [] (Some i) h = cc
count_at labels k n (w ∷ ws) o h = ap (λ (t : Bool). cond t 0 1) some ∙ by (item_in w ws) o h
  where
    some : (length (w ∷ ws) == 0) ≡ false
    some = grind (arith, nat_tests)

    by : (x : Option Item) (o : Option Item) → option_map Some x ≡ Some o → 1 ≡ length (with_outcome labels k n (Some o) [])
    by None o h = cc
    by (Some i) None h = cc
    by (Some i) (Some j) h = refl

count_on : (labels : List (List ℕ × ℕ)) (k n : ℕ) (line : List (List ℕ)) (o : Option Item) → item_on line ≡ Some o
    → item_count (front_of line) ≡ length (with_outcome labels k n (Some o) [])
unfolding item_on
count_on labels k n line o h = by (may_stand (front_of line).label) h
  where
    by : (t : Bool) → cond t (item_at (front_of line).item) None ≡ Some o → item_count (front_of line) ≡ length (with_outcome labels k n (Some o) [])
    by true h = count_at labels k n (front_of line).item o h
    by false h = cc

outcome_behind : (labels : List (List ℕ × ℕ)) (k n : ℕ) (o : Option Item) (more : List (ℕ × Outcome))
    → with_outcome labels k n (Some o) more ≡ with_outcome labels k n (Some o) [] ++ more
outcome_behind labels k n None more = refl
outcome_behind labels k n (Some i) more = refl

pub few_taken : (labels : List (List ℕ × ℕ)) (k n : ℕ) (o : Option Item) → length (with_outcome labels k n (Some o) []) ≤ 1
few_taken labels k n None = omega arith
few_taken labels k n (Some i) = omega arith

next_outcomes : (labels : List (List ℕ × ℕ)) (k n : ℕ) (rest line left : List ℕ) (o : Option Item) → script_lines rest ≡ line ∷ script_lines left
    → Some o ≡ item_on (words (without_return line))
    → outcomes_from labels k n (lines_in rest)
    ≡ with_outcome labels k n (Some o) [] ++ outcomes_from labels (k + 1) (n + length (with_outcome labels k n (Some o) [])) (lines_in left)
next_outcomes labels k n rest line left o lines is =
    let ws = words (without_return line) in
    ap (outcomes_from labels k n) (lines_next rest line left lines)
    ∙ ap (λ x. with_outcome labels k n x (outcomes_from labels (k + 1) (n + item_count (front_of ws)) (lines_in left))) (sym is)
    ∙ ap (λ m. with_outcome labels k n (Some o) (outcomes_from labels (k + 1) (n + m) (lines_in left))) (count_on labels k n ws o (sym is))
    ∙ outcome_behind labels k n o (outcomes_from labels (k + 1) (n + length (with_outcome labels k n (Some o) [])) (lines_in left))

pub one_taken : (labels : List (List ℕ × ℕ)) (all : List (ℕ × Outcome)) (k : ℕ) (rest line left : List ℕ) (o : Option Item) (c d : Coded)
    → AreTaken all (outcomes_from labels k c.items (lines_in rest)) c → script_lines rest ≡ line ∷ script_lines left → Some o ≡ item_on (words (without_return line))
    → IsCodedBehind (with_outcome labels k c.items (Some o) []) c d → AreTaken all (outcomes_from labels (k + 1) d.items (lines_in left)) d
one_taken labels all k rest line left o c d taken lines is behind =
    let os = with_outcome labels k c.items (Some o) [] in
    record {
      done = taken.done ++ os;
      whole =
          taken.whole ∙ ap (λ xs. taken.done ++ xs) (next_outcomes labels k c.items rest line left o lines is)
          ∙ sym (append_assoc taken.done os _)
          ∙ ap (λ n. (taken.done ++ os) ++ outcomes_from labels (k + 1) n (lines_in left)) (sym behind.count);
      coded = coded_more taken.done os c d taken.coded behind;
    }

one_missing : (labels : List (List ℕ × ℕ)) (all : List (ℕ × Outcome)) (k j : ℕ) (rest line left : List ℕ) (o : Option Item) (c : Coded)
    → AreTaken all (outcomes_from labels k c.items (lines_in rest)) c → script_lines rest ≡ line ∷ script_lines left → Some o ≡ item_on (words (without_return line))
    → first_missing (with_outcome labels k c.items (Some o) []) ≡ Some j → first_missing all ≡ Some j
one_missing labels all k j rest line left o c taken lines is missing =
    ap first_missing (taken.whole ∙ ap (λ xs. taken.done ++ xs) (next_outcomes labels k c.items rest line left o lines is))
    ∙ missing_behind taken.done _ taken.coded.missing
    ∙ missing_first (with_outcome labels k c.items (Some o) []) _ j missing

pub one_inside : (r : Option ℕ) (k : ℕ) (rest line left : List ℕ) (o : Option Item) → r ≡ outside_from k (lines_in rest) → script_lines rest ≡ line ∷ script_lines left
    → Some o ≡ item_on (words (without_return line)) → r ≡ outside_from (k + 1) (lines_in left)
one_inside r k rest line left o so_far lines is =
    so_far ∙ ap (outside_from k) (lines_next rest line left lines) ∙ ap (λ x. outside_or k x (outside_from (k + 1) (lines_in left))) (sym is)

pub one_outside : (r : Option ℕ) (k : ℕ) (rest line left : List ℕ) → r ≡ outside_from k (lines_in rest) → script_lines rest ≡ line ∷ script_lines left
    → None ≡ item_on (words (without_return line)) → r ≡ Some k
one_outside r k rest line left so_far lines is =
    so_far ∙ ap (outside_from k) (lines_next rest line left lines) ∙ ap (λ x. outside_or k x (outside_from (k + 1) (lines_in left))) (sym is)

pub all_inside : (r : Option ℕ) (k : ℕ) (rest : List ℕ) → r ≡ outside_from k (lines_in rest) → length rest ≡ 0 → r ≡ None
all_inside r k rest so_far none = so_far ∙ ap (outside_from k) (no_lines rest none)

pub all_taken : (labels : List (List ℕ × ℕ)) (all : List (ℕ × Outcome)) (k : ℕ) (rest : List ℕ) (c : Coded)
    → AreTaken all (outcomes_from labels k c.items (lines_in rest)) c → length rest ≡ 0 → IsCoded all c
all_taken labels all k rest c taken none =
    subst (λ os. IsCoded os c) (sym (taken.whole ∙ ap (λ ls. taken.done ++ outcomes_from labels k c.items ls) (no_lines rest none) ∙ append-nil taken.done)) taken.coded

pub refused_coded : (labels : List (List ℕ × ℕ)) (all_lines : List (List (List ℕ))) (k : ℕ) (rest line left : List ℕ) (o : Option Item) (c : Coded)
    → AreTaken (outcomes_of labels all_lines) (outcomes_from labels k c.items (lines_in rest)) c → script_lines rest ≡ line ∷ script_lines left
    → Some o ≡ item_on (words (without_return line))
    → (e : AsmError) → RefusesItems (with_outcome labels k c.items (Some o) []) e → Codes labels all_lines (Err e)
refused_coded labels all_lines k rest line left o c taken lines is (NoLabel j) h =
    one_missing labels (outcomes_of labels all_lines) k j rest line left o c taken lines is h
refused_coded labels all_lines k rest line left o c taken lines is Memory h = tt
refused_coded labels all_lines k rest line left o c taken lines is _ h = absurd h
