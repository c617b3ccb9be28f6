use Rattle.std.proofs.Common.{◌≡◌, ℕ, zero, suc, ◌<◌, List, [], ◌∷◌, ◌++◌, length, take, drop, get_or, refl, sym, ap, ◌∙◌, arith}
use Rattle.std.specs.Prelude.{slice_set}
use Rattle.std.specs.List.{AllByRecursion}
use Rattle.std.proofs.lemmas.List.{take_at, drop_at}

-- Lists that are one, part by part.

pub split_same : (a b r s : List ℕ) → length a ≡ length b → a ++ r ≡ b ++ s → (a ≡ b) × (r ≡ s)
split_same a b r s long e = (
  sym (take_at a r (length a) refl) ∙ ap (take (length a)) e ∙ take_at b s (length a) (sym long),
  sym (drop_at a r (length a) refl) ∙ ap (drop (length a)) e ∙ drop_at b s (length a) (sym long),
)

-- What holds of each element.

pub all_push : {X : Type 0} (P : X → Type 0) (xs : List X) (y : X) → AllByRecursion P xs → P y → AllByRecursion P (xs ++ y ∷ [])
all_push P [] y all is = (is, tt)
all_push P (x ∷ xs) y all is = (all.0, all_push P xs y all.1 is)

pub all_from : (P : ℕ → Type 0) (xs : List ℕ) → ((i : ℕ) → P (get_or xs i 0)) → AllByRecursion P xs
all_from P [] each = tt
all_from P (x ∷ xs) each = (each 0, all_from P xs (λ i. each (suc i)))

pub all_set : {X : Type 0} (P : X → Type 0) (xs : List X) (k : ℕ) (y : X) → AllByRecursion P xs → P y → AllByRecursion P (slice_set xs k y)
all_set P [] k y all is = tt
all_set P (x ∷ xs) zero y all is = (is, all.1)
all_set P (x ∷ xs) (suc k) y all is = (all.0, all_set P xs k y all.1 is)

-- All but the first.

pub rest_set : (xs : List ℕ) (k n : ℕ) → drop 1 (slice_set xs (suc k) n) ≡ slice_set (drop 1 xs) k n
rest_set [] k n = refl
rest_set (x ∷ xs) k n = refl

pub rest_push : (xs : List ℕ) (n : ℕ) → 0 < length xs → drop 1 (xs ++ n ∷ []) ≡ drop 1 xs ++ n ∷ []
rest_push [] n some = absurd (omega (arith, some))
rest_push (x ∷ xs) n some = refl
