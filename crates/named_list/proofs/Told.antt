use Rattle.std.proofs.Common.{◌≡◌, ℕ, Bool, true, false, cond, List, [], ◌∷◌, ◌++◌, length, insert, Option, Some, None, sym, ap, ◌∙◌, refl}
use Rattle.std.specs.Prelude.{nat_eq}
use Rattle.std.specs.List.{list_any}
use Rattle.std.specs.Option.{is_some}
use Rattle.std.specs.HashMap.{HashMap, UpdatesBy}
use Rattle.std.specs.Map.{KeepsOthers, keys_of, lookup}
use Rattle.std.proofs.lemmas.Cmp.{nat_list_eq_equiv}
use Rattle.std.proofs.lemmas.Map.{lookup-insert, none_passes_from_lookup}
use Rattle.std.proofs.lemmas.Map.Made.{is_some-lookup}
use lib.Pointwise.{pointwise}

-- What is found under a name.

abbrev pub same : List ℕ → List ℕ → Bool
same = pointwise nat_eq

-- after an edit of a map at the keys whose bytes are a name
pub told_edited : {K S : Type 0} (bytes : K → List ℕ) (old new : HashMap K ℕ S) (name : List ℕ) (w : Option ℕ)
    → UpdatesBy (λ x y. same (bytes x) (bytes y)) (λ key. same name (bytes key)) old new w → (q : List ℕ)
    → lookup (λ key. same q (bytes key)) new.entries ≡ cond (same name q) w (lookup (λ key. same q (bytes key)) old.entries)
unfolding KeepsOthers
told_edited {K} bytes old new name w edit q = by (same name q) refl
  where
    apart : same name q ≡ false → (k : List ℕ) → same name k ≡ true → same q k ≡ false
    apart is k h = nat_list_eq_equiv.symm q k ∙ sym (nat_list_eq_equiv.congr name k q h) ∙ is

    by : (b : Bool) → same name q ≡ b
        → lookup (λ key. same q (bytes key)) new.entries ≡ cond b w (lookup (λ key. same q (bytes key)) old.entries)
    by true is = ap (λ (t : K → Bool). lookup t new.entries) (λ i key. sym (nat_list_eq_equiv.congr name q (bytes key) is) i) ∙ edit.1
    by false is = edit.3 (λ key. same q (bytes key)) (λ x y h. nat_list_eq_equiv.congr q (bytes x) (bytes y) h) (λ key h. apart is (bytes key) h)

-- with one more at the end
insert_last : {X : Type 0} (xs : List X) (x : X) → insert xs (length xs) x ≡ xs ++ x ∷ []
insert_last [] x = refl
insert_last (y ∷ xs) x = ap (λ zs. y ∷ zs) (insert_last xs x)

pub told_push : {X : Type 0} (es : List (List ℕ × X)) (k : List ℕ) (v : X) (q : List ℕ) → lookup (same k) es ≡ None
    → lookup (same q) (es ++ (k, v) ∷ []) ≡ cond (same k q) (Some v) (lookup (same q) es)
told_push es k v q none =
    ap (lookup (same q)) (sym (insert_last es (k, v)))
    ∙ lookup-insert nat_list_eq_equiv k v q es (length es) (none_passes_from_lookup (same k) es none)

-- it is at the first entry, or is found behind it
pub found_here : {X : Type 0} (b : Bool) (x y : X) (r : Option X) → b ≡ true → cond b (Some x) r ≡ Some y → x ≡ y
found_here true x y r is h = cc
found_here false x y r is h = cc

pub found_later : {X : Type 0} (b : Bool) (x : X) (r o : Option X) → b ≡ false → cond b (Some x) r ≡ o → r ≡ o
found_later true x r o is h = cc
found_later false x r o is h = h

-- nothing, where there is nothing in another list with the same names
not_some : {X : Type 0} (r : Option X) → is_some r ≡ false → r ≡ None
not_some None is = refl
not_some (Some x) is = cc

pub none_alike : {X Y : Type 0} (q : List ℕ) (es : List (List ℕ × X)) (fs : List (List ℕ × Y)) → keys_of es ≡ keys_of fs → lookup (same q) es ≡ None
    → lookup (same q) fs ≡ None
none_alike q es fs names none =
    not_some (lookup (same q) fs)
    (is_some-lookup (same q) fs ∙ ap (list_any (same q)) (sym names) ∙ sym (is_some-lookup (same q) es) ∙ ap is_some none)
