use Rattle.std.proofs.Common.{◌≡◌, ℕ, Bool, true, false, cond, List, [], ◌∷◌, ◌++◌, length, ◌==◌, ap, sym, ◌∙◌, refl, nat_eq, Option, Some, None, Result, Ok, Err, IfOk}
use Rattle.std.specs.Option.{option_or}
use Rattle.std.specs.Cmp.Lexicographic.{same_text}
use lib.Pointwise.{pointwise}
use Rattle.script_text.specs.declared.command.Command.{Command}
use Rattle.script_text.specs.Kinds.{Kind}
use Rattle.script_text.specs.Forms.{Form, two_words, three_words, machine_forms, debugger_forms, made_at, made_by, command_of}
use Rattle.script_text.specs.FormLaws.{behind_one}

-- The rows of the table of forms.

or_none : (o : Option Command) → o ≡ option_or o None
or_none None = refl
or_none (Some command) = refl

-- what the row of a first word makes, where no other row of some forms has that word
pub at_row : (fs : List Form) (row text : List ℕ) (makes : List (List ℕ) → Option Command) (first : List ℕ) (words : List (List ℕ))
    → ((ws : List (List ℕ)) → option_or (makes ws) None ≡ made_by fs row ws) → text ≡ row → true ≡ pointwise nat_eq first text
    → makes words ≡ made_by fs first words
at_row fs row text makes first words alone same is =
    or_none (makes words) ∙ alone words ∙ ap (λ (w : List ℕ). made_by fs w words) (sym (same_text first text is ∙ same))

-- what two rows of a first word make, where no third row has that word
pub at_rows : (fs : List Form) (row text : List ℕ) (makes others : List (List ℕ) → Option Command) (first : List ℕ) (words : List (List ℕ))
    → ((ws : List (List ℕ)) → option_or (makes ws) (option_or (others ws) None) ≡ made_by fs row ws) → text ≡ row → true ≡ pointwise nat_eq first text
    → option_or (makes words) (others words) ≡ made_by fs first words
at_rows fs row text makes others first words alone same is =
    ap (option_or (makes words)) (or_none (others words)) ∙ alone words ∙ ap (λ (w : List ℕ). made_by fs w words) (sym (same_text first text is ∙ same))

-- a first word that is none of a text
pub not_text : (row text first : List ℕ) → text ≡ row → false ≡ pointwise nat_eq first text → false ≡ pointwise nat_eq first row
not_text row text first same h = h ∙ ap (λ (t : List ℕ). pointwise nat_eq first t) same

-- where it is answered with want of memory
pub if_ok : {E : Type 0} (r : Result (Option Command) E) (x y : Option Command) → x ≡ y → IfOk r (λ c. c ≡ x) → IfOk r (λ c. c ≡ y)
if_ok (Ok c) x y same h = h ∙ same
if_ok (Err e) x y same h = tt

-- a first word that no row has
abbrev pub IsOther : List ℕ → List Form → Type 0
IsOther first [] = Unit {0}
IsOther first (f ∷ fs) = (false ≡ pointwise nat_eq first f.first) × IsOther first fs

pub at_no_row : (fs : List Form) (first : List ℕ) (words : List (List ℕ)) → IsOther first fs → None ≡ made_by fs first words
at_no_row [] first words h = refl
at_no_row (f ∷ fs) first words h =
    at_no_row fs first words h.1 ∙ ap (λ (t : Bool). option_or (cond t (f.makes words) None) (made_by fs first words)) h.0

-- what some forms and those behind them make
or_or : (o p q : Option Command) → option_or (option_or o p) q ≡ option_or o (option_or p q)
or_or None p q = refl
or_or (Some command) p q = refl

made_by_both : (fs gs : List Form) (first : List ℕ) (words : List (List ℕ))
    → option_or (made_by fs first words) (made_by gs first words) ≡ made_by (fs ++ gs) first words
made_by_both [] gs first words = refl
made_by_both (f ∷ fs) gs first words =
    or_or (made_at first words f) (made_by fs first words) (made_by gs first words) ∙ ap (option_or (made_at first words f)) (made_by_both fs gs first words)

pub in_either : (first : List ℕ) (words : List (List ℕ))
    → option_or (made_by machine_forms first words) (made_by debugger_forms first words) ≡ command_of first words
unfolding command_of
in_either first words = made_by_both machine_forms debugger_forms first words

-- words of another count than a form's make nothing by it
pub not_two : {A B : Type 0} (kind : Kind A) (other : Kind B) (make : A → B → Command) (ws : List (List ℕ)) → (length ws == 2) ≡ false
    → two_words kind other make ws ≡ None
not_two kind other make [] h = refl
not_two kind other make (w ∷ []) h = behind_one (kind w) _ (λ a. refl)
not_two kind other make (w ∷ x ∷ []) h = cc
not_two kind other make (w ∷ x ∷ y ∷ ws) h = behind_one (kind w) _ (λ a. behind_one (other x) _ (λ b. refl))

pub not_three : {A B C : Type 0} (kind : Kind A) (other : Kind B) (third : Kind C) (make : A → B → C → Command) (ws : List (List ℕ))
    → (length ws == 3) ≡ false → three_words kind other third make ws ≡ None
not_three kind other third make [] h = refl
not_three kind other third make (w ∷ []) h = behind_one (kind w) _ (λ a. refl)
not_three kind other third make (w ∷ x ∷ []) h = behind_one (kind w) _ (λ a. behind_one (other x) _ (λ b. refl))
not_three kind other third make (w ∷ x ∷ y ∷ []) h = cc
not_three kind other third make (w ∷ x ∷ y ∷ z ∷ ws) h =
    behind_one (kind w) _ (λ a. behind_one (other x) _ (λ b. behind_one (third y) _ (λ c. refl)))
