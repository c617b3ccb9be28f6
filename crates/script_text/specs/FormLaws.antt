use Rattle.std.specs.Prelude.{◌≡◌, ℕ, ◌≤◌, nat_eq, Bool, true, false, cond, refl, List, [], ◌∷◌, length, codes, Option, Some, None}
use Rattle.std.proofs.Common.{ap, sym, subst, arith}
use Rattle.std.specs.Option.{option_and_then}
use Rattle.std.specs.List.{cons_option}
use Rattle.std.specs.Cmp.Lexicographic.{same_text}
use lib.Pointwise.{pointwise}
use Rattle.script_text.specs.declared.command.Command.{Command}
use Rattle.script_text.specs.declared.command.Command.TheVariants.{Promote, PromoteAll, Dedup, DedupAll}
use Rattle.script_text.specs.Kinds.{process_word, address_word, is_all, all_word}
use Rattle.script_text.specs.Forms.{Form, forms, no_words, one_word, two_words, three_words, four_words, made_by_each}

-- A first word and the words behind it fit at most one row of the table: the rows of one first word differ in
-- the kinds of the words behind it.

-- a fact of a row, beside those of the rows behind it
infixr 1 ◌beside◌
abbrev pub ◌beside◌ : {A B : Type 0} → A → B → A × B
◌beside◌ a b = (a, b)

-- a form that words fit leaves none behind it that they fit
abbrev FormsAreApart : List Form → Type 0
FormsAreApart [] = Unit {0}
FormsAreApart (f ∷ fs) = ((words : List (List ℕ)) (command : Command) → f.makes words ≡ Some command → made_by_each fs f.first words ≡ []) × FormsAreApart fs

one_more : (t : Bool) (o : Option Command) (more : List Command) → (t ≡ true → (command : Command) → o ≡ Some command → more ≡ []) → length more ≤ 1
    → length (cons_option (cond t o None) more) ≤ 1
one_more false o more alone few = few
one_more true None more alone few = few
one_more true (Some command) more alone few = omega (arith, ap (λ cs. length cs) (alone refl command refl))

one_of : (fs : List Form) (first : List ℕ) (words : List (List ℕ)) → FormsAreApart fs → length (made_by_each fs first words) ≤ 1
one_of [] first words apart = omega arith
one_of (f ∷ fs) first words apart =
    one_more (pointwise nat_eq first f.first) (f.makes words) (made_by_each fs first words)
    (λ same command is. subst (λ (w : List ℕ). made_by_each fs w words ≡ []) (sym (same_text first f.first (sym same))) (apart.0 words command is))
    (one_of fs first words apart.1)

-- an address isn't the word `all`
no_address : (word : List ℕ) → is_all word ≡ true → address_word word ≡ None
no_address word h = ap address_word (same_text word (codes "all") (sym h))

either : (p : ℕ) (words : List (List ℕ)) (address : Option ℕ) (t : Bool) (command : Command) → (t ≡ true → address ≡ None)
    → option_and_then (λ a. no_words (Promote p a) words) address ≡ Some command
    → option_and_then (λ (all : Unit {0}). no_words (PromoteAll p) words) (cond t (Some tt) None) ≡ None
either p words None t command none is = cc
either p words (Some a) true command none is = let same : Some a ≡ None = none refl in cc
either p words (Some a) false command none is = refl

behind_process : (o : Option ℕ) (words : List (List ℕ)) (command : Command)
    → option_and_then (λ p. one_word address_word (Promote p) words) o ≡ Some command
    → option_and_then (λ p. one_word all_word (λ all. PromoteAll p) words) o ≡ None
behind_process None words command is = refl
behind_process (Some p) [] command is = refl
behind_process (Some p) (x ∷ words) command is = either p words (address_word x) (is_all x) command (no_address x) is

page_or_all : (words : List (List ℕ)) (command : Command) → two_words process_word address_word Promote words ≡ Some command
    → two_words process_word all_word (λ p all. PromoteAll p) words ≡ None
page_or_all [] command is = refl
page_or_all (w ∷ words) command is = behind_process (process_word w) words command is

-- a word makes nothing where nothing is made of what it says
pub behind_one : {A B : Type 0} (o : Option A) (make : A → Option B) → ((a : A) → make a ≡ None) → option_and_then make o ≡ None
behind_one None make h = refl
behind_one (Some a) make h = h a

-- four words aren't three
one_or_each : (words : List (List ℕ)) (command : Command) → four_words process_word address_word process_word address_word Dedup words ≡ Some command
    → three_words process_word all_word process_word (λ p all q. DedupAll p q) words ≡ None
one_or_each [] command is = refl
one_or_each (w ∷ []) command is = behind_one (process_word w) _ (λ p. refl)
one_or_each (w ∷ x ∷ []) command is = behind_one (process_word w) _ (λ p. behind_one (all_word x) _ (λ all. refl))
one_or_each (w ∷ x ∷ y ∷ []) command is =
    let none : four_words process_word address_word process_word address_word Dedup (w ∷ x ∷ y ∷ []) ≡ None =
    behind_one (process_word w) _ (λ p. behind_one (address_word x) _ (λ a. behind_one (process_word y) _ (λ q. refl))) in
    cc
one_or_each (w ∷ x ∷ y ∷ z ∷ words) command is =
    behind_one (process_word w) _ (λ p. behind_one (all_word x) _ (λ all. behind_one (process_word y) _ (λ q. refl)))

apart : FormsAreApart forms
apart =
    (λ words command is. refl)
    beside (λ words command is. refl)
    beside (λ words command is. refl)
    beside (λ words command is. refl)
    beside (λ words command is. refl)
    beside (λ words command is. refl)
    beside (λ words command is. refl)
    beside (λ words command is. refl)
    beside (λ words command is. refl)
    beside (λ words command is. refl)
    beside (λ words command is. refl)
    beside (λ words command is. refl)
    beside (λ words command is. refl)
    beside (λ words command is. refl)
    beside (λ words command is. ap (λ o. cons_option o []) (page_or_all words command is))
    beside (λ words command is. refl)
    beside (λ words command is. ap (λ o. cons_option o []) (one_or_each words command is))
    beside (λ words command is. refl)
    beside (λ words command is. refl)
    beside (λ words command is. refl)
    beside (λ words command is. refl)
    beside (λ words command is. refl)
    beside (λ words command is. refl)
    beside (λ words command is. refl)
    beside (λ words command is. refl)
    beside (λ words command is. refl)
    beside (λ words command is. refl)
    beside (λ words command is. refl)
    beside (λ words command is. refl)
    beside (λ words command is. refl)
    beside (λ words command is. refl)
    beside tt

pub at_most_one_fits : (first : List ℕ) (words : List (List ℕ)) → length (made_by_each forms first words) ≤ 1
at_most_one_fits first words = one_of forms first words apart
