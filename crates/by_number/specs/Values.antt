use Rattle.std.specs.Prelude.{◌≡◌, ℕ, ◌≤◌, ◌<◌, true, Option, Some, None}
use Rattle.std.specs.Option.{is_some}
use Rattle.std.specs.Ordering.{nat_cmp}
use Rattle.std.specs.FinMap.{FinMap, get}

-- The least number that has a value, of those that aren't below one; none where none of them has any. The values are told by a function of the number.
abbrev pub IsNextValue : {T : Type 0} → (ℕ → Option T) → ℕ → Option ℕ → Type 0
IsNextValue value from None = (q : ℕ) → from ≤ q → value q ≡ None
IsNextValue value from (Some n) = (from ≤ n) × (is_some (value n) ≡ true) × ((q : ℕ) → from ≤ q → q < n → value q ≡ None)

-- the same of a map
abbrev pub IsNextNumber : {T : Type 0} → FinMap nat_cmp T → ℕ → Option ℕ → Type 0
IsNextNumber values from result = IsNextValue (get values) from result
