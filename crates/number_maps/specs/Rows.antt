use Rattle.std.specs.Prelude.{◌≡◌, ℕ, ◌+◌, ◌<◌, ◌≤◌, List, [], ◌∷◌, length, map, get_or, Option, Some, None}
use Rattle.std.specs.Ordering.{nat_cmp}
use Rattle.std.specs.FinMap.{FinMap, from_entries, get}

-- A map that is kept as rows. A row by number is a number, its key, with a value beside it; rows stand in a list by
-- rising keys, each key once.

-- the map that rows stand for
abbrev pub map_of : {X : Type 0} → List (ℕ × X) → FinMap nat_cmp X
map_of rows = from_entries rows

-- the key of the row at a place
abbrev pub key_at : {X : Type 0} → List (ℕ × X) → ℕ → ℕ
key_at rows i = get_or (map (λ row. row.0) rows) i 0

-- the keys rise strictly, the first not below a number
abbrev pub RowsRise : {X : Type 0} → ℕ → List (ℕ × X) → Type 0
RowsRise from [] = Unit {0}
RowsRise from (row ∷ rows) = (from ≤ row.0) × RowsRise (row.0 + 1) rows

-- the row of a key stands at a place
pub record IsAt {X : Type 0} (rows : List (ℕ × X)) (k i : ℕ) : Type 0 where
  pub there : i < length rows
  pub has : key_at rows i ≡ k

-- no row has the key, and one would stand at a place: lesser keys are before it, and greater ones from there on
pub record IsGap {X : Type 0} (rows : List (ℕ × X)) (k i : ℕ) : Type 0 where
  pub inside : i ≤ length rows
  pub before : (j : ℕ) → j < i → key_at rows j < k
  pub behind : (j : ℕ) → i ≤ j → j < length rows → k < key_at rows j

-- the least key of a map not below one, with its value, or that there is none
abbrev pub IsNextOne : {X : Type 0} → FinMap nat_cmp X → ℕ → Option (ℕ × X) → Type 0
IsNextOne m k None = (q : ℕ) → k ≤ q → get m q ≡ None
IsNextOne m k (Some found) = (k ≤ found.0) × (get m found.0 ≡ Some found.1) × ((q : ℕ) → k ≤ q → q < found.0 → get m q ≡ None)
