use Rattle.std.proofs.Common.{◌≡◌, ℕ, zero, suc, ◌<◌, Bool, cond, List, [], ◌∷◌, length, remove, slice_get, Some, None, ap, ◌∙◌, refl, arith}
use Rattle.std.specs.Prelude.{nat_eq}
use Rattle.std.specs.Option.{option_map}
use Rattle.std.specs.Map.{keys_of, lookup, remove_entry}
use Rattle.std.proofs.lemmas.Map.{NonePasses, none_passes_from_lookup}
use lib.Pointwise.{pointwise}
use Rattle.named_list.specs.Places.{IsFirstNamed}

-- What stands at the first place of a name.

module _ {X : Type 0} (name : List ℕ) where
  pub first_within : (es : List (List ℕ × X)) (i : ℕ) → IsFirstNamed name (keys_of es) i → i < length es
  first_within [] i at = absurd at
  first_within (e ∷ es) zero at = omega arith
  first_within (e ∷ es) (suc i) at = omega (arith, first_within es i at.1)

  pub first_value : (es : List (List ℕ × X)) (i : ℕ) → IsFirstNamed name (keys_of es) i
      → lookup (pointwise nat_eq name) es ≡ option_map (λ e. e.1) (slice_get es i)
  first_value [] i at = absurd at
  first_value (e ∷ es) zero at = ap (λ b. cond b (Some e.1) (lookup (pointwise nat_eq name) es)) at
  first_value (e ∷ es) (suc i) at = ap (λ b. cond b (Some e.1) (lookup (pointwise nat_eq name) es)) at.0 ∙ first_value es i at.1

  pub first_rest : (es : List (List ℕ × X)) (i : ℕ) → IsFirstNamed name (keys_of es) i
      → remove_entry (pointwise nat_eq name) es ≡ remove es i
  first_rest [] i at = absurd at
  first_rest (e ∷ es) zero at = ap (λ b. cond b es (e ∷ remove_entry (pointwise nat_eq name) es)) at
  first_rest (e ∷ es) (suc i) at =
      ap (λ b. cond b es (e ∷ remove_entry (pointwise nat_eq name) es)) at.0 ∙ ap (λ xs. e ∷ xs) (first_rest es i at.1)

-- where no entry has a name, none is taken out
pub all_stay : {X : Type 0} (test : List ℕ → Bool) (es : List (List ℕ × X)) → lookup test es ≡ None → remove_entry test es ≡ es
all_stay {X} test es none = by es (none_passes_from_lookup test es none)
  where
    by : (es : List (List ℕ × X)) → NonePasses test es → remove_entry test es ≡ es
    by [] fail = refl
    by (e ∷ es) fail = ap (λ b. cond b es (e ∷ remove_entry test es)) fail.0 ∙ ap (λ xs. e ∷ xs) (by es fail.1)
