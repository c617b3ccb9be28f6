use Rattle.std.specs.Prelude.{◌≡◌, ◌==◌, ◌<◌, ◌≤◌, ℕ, Bool, List, length, get_or, Result, Ok, Err}
use Rattle.std.specs.List.{list_any}

-- Numbers that ascend, and for how many there is room.
pub record Numbers : Type 0 where
  pub items : List ℕ
  pub room : ℕ

-- whether a number is one of some
abbrev pub is_in : List ℕ → ℕ → Bool
is_in numbers q = list_any (λ n. n == q) numbers

-- a number is in a list now or isn't, and each other one is where it was
pub record IsListed (p : ℕ) (listed : Bool) (old new : List ℕ) : Type 0 where
  pub here : is_in new p ≡ listed
  pub others : (q : ℕ) → (q ≡ p → ⊥) → is_in new q ≡ is_in old q

-- where a number stands among ascending ones, or where it would
abbrev pub IsPlaceOf : List ℕ → ℕ → Result ℕ ℕ → Type 0
IsPlaceOf numbers p (Ok i) = (i < length numbers) × (get_or numbers i 0 ≡ p)
IsPlaceOf numbers p (Err i) =
    (i ≤ length numbers) × ((k : ℕ) → k < i → get_or numbers k 0 < p) × ((k : ℕ) → i ≤ k → k < length numbers → p < get_or numbers k 0)
