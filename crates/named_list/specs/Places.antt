use Rattle.std.specs.Prelude.{◌≡◌, ℕ, zero, suc, true, false, nat_eq, List, [], ◌∷◌, Option, Some, None}
use Rattle.std.specs.Map.{keys_of, lookup}
use lib.Pointwise.{pointwise}

-- The first place at which a name stands.
abbrev pub IsFirstNamed : List ℕ → List (List ℕ) → ℕ → Type 0
IsFirstNamed name [] i = ⊥
IsFirstNamed name (x ∷ xs) zero = pointwise nat_eq name x ≡ true
IsFirstNamed name (x ∷ xs) (suc i) = (pointwise nat_eq name x ≡ false) × IsFirstNamed name xs i

-- the place of the entry of a name, or that no entry has it
abbrev pub IsPlaceNamed : {V : Type 0} → List ℕ → List (List ℕ × V) → Option ℕ → Type 0
IsPlaceNamed name entries None = lookup (pointwise nat_eq name) entries ≡ None
IsPlaceNamed name entries (Some i) = IsFirstNamed name (keys_of entries) i
