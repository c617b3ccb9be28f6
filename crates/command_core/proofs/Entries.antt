use Rattle.std.proofs.Common.{◌≡◌, ℕ, Bool, true, false, cond, List, [], ◌∷◌, ◌++◌, ap, subst, ◌∙◌, refl, Some}
use Rattle.std.specs.Prelude.{nat_eq, slice_get, zero, suc}
use Rattle.std.specs.Map.{lookup, remove_entry, values_of}
use lib.Pointwise.{pointwise}
use Rattle.report_text.specs.Answers.{IsCheckpointName}
use Rattle.command_core.specs.declared.checkpoints.Kept.{Kept}
use Rattle.command_core.specs.Kept.{AreNamed, IsNamed, kept_but, kept_named}

-- Checkpoints as the entries of a map, each under its name.

module _ {Key : Type 0} (bytes : Key → List ℕ) where
  -- the one that is found, and the ones that are left
  module _ (name : List ℕ) where
    abbrev stands_under : Key → Bool
    stands_under key = pointwise nat_eq name (bytes key)

    under : (e : Key × Kept) → IsNamed bytes e → stands_under e.0 ≡ pointwise nat_eq name e.1.name
    under e named = ap (pointwise nat_eq name) named.0

    pub found_under : (es : List (Key × Kept)) → AreNamed bytes es → lookup stands_under es ≡ kept_named name (values_of es)
    found_under [] named = refl
    found_under (e ∷ es) named =
        ap (λ b. cond b (Some e.1) (lookup stands_under es)) (under e named.0)
        ∙ ap (cond (pointwise nat_eq name e.1.name) (Some e.1)) (found_under es named.1)

    pub left_under : (es : List (Key × Kept)) → AreNamed bytes es → values_of (remove_entry stands_under es) ≡ kept_but name (values_of es)
    left_under [] named = refl
    left_under (e ∷ es) named =
        ap (λ b. values_of (cond b es (e ∷ remove_entry stands_under es))) (under e named.0) ∙ by_name (pointwise nat_eq name e.1.name) (left_under es named.1)
      where
        by_name : (b : Bool) → values_of (remove_entry stands_under es) ≡ kept_but name (values_of es)
            → values_of (cond b es (e ∷ remove_entry stands_under es)) ≡ cond b (values_of es) (e.1 ∷ kept_but name (values_of es))
        by_name true rest = refl
        by_name false rest = ap (λ xs. e.1 ∷ xs) rest

    pub still_named : (es : List (Key × Kept)) → AreNamed bytes es → AreNamed bytes (remove_entry stands_under es)
    still_named [] named = named
    still_named (e ∷ es) named = by_name (stands_under e.0) (still_named es named.1)
      where
        by_name : (b : Bool) → AreNamed bytes (remove_entry stands_under es) → AreNamed bytes (cond b es (e ∷ remove_entry stands_under es))
        by_name true rest = named.1
        by_name false rest = (named.0, rest)

  -- one more
  pub one_more : (es : List (Key × Kept)) (e : Key × Kept) → values_of (es ++ e ∷ []) ≡ values_of es ++ e.1 ∷ []
  one_more [] e = refl
  one_more (x ∷ es) e = ap (λ xs. x.1 ∷ xs) (one_more es e)

  pub more_named : (es : List (Key × Kept)) (e : Key × Kept) → AreNamed bytes es → IsNamed bytes e → AreNamed bytes (es ++ e ∷ [])
  more_named [] e named h = (h, tt)
  more_named (x ∷ es) e named h = (named.0, more_named es e named.1 h)

  -- the one of a place
  pub named_at : (es : List (Key × Kept)) (index : ℕ) (e : Key × Kept) → AreNamed bytes es → slice_get es index ≡ Some e → IsCheckpointName e.1.name
  named_at [] index e named is = cc
  named_at (x ∷ es) zero e named is = let same : x ≡ e = cc in subst (λ (y : Key × Kept). IsCheckpointName y.1.name) same named.0.1
  named_at (x ∷ es) (suc index) e named is = named_at es index e named.1 is
