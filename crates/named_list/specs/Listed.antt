use Rattle.std.specs.Prelude.{◌≡◌, ℕ, ◌<◌, nat_eq, List, map, Box}
use Rattle.std.specs.List.{AllByRecursion, IsDistinct}
use Rattle.std.specs.Map.{keys_of, lookup}
use lib.Pointwise.{pointwise}
use Rattle.number_maps.specs.Rows.{RowsRise}
use Rattle.named_list.specs.declared.rows.Entry.{Entry}

-- What a list is kept as: rows, each a number with an entry beside it, and the number of each name. No public clause cites this module.

-- the name and the value of an entry
abbrev pub name_in : {V Z : Type 0} → Box (Entry V) Z → List ℕ
name_in entry = entry.value.name.items

abbrev pub value_in : {V Z : Type 0} → Box (Entry V) Z → V
value_in entry = entry.value.value

module _ {B : Type 0} (name : B → List ℕ) where
  -- the entries that rows stand for
  abbrev pub entries_of : {V : Type 0} → (B → V) → List (ℕ × B) → List (List ℕ × V)
  entries_of value rows = map (λ row. (name row.1, value row.1)) rows

  -- their numbers, each under its entry's name
  abbrev pub numbers_of : List (ℕ × B) → List (List ℕ × ℕ)
  numbers_of rows = map (λ row. (name row.1, row.0)) rows

  -- The numbers rise, and are below the next one. No name stands twice, and under each the map has the number of its entry.
  pub record IsListed {K : Type 0} (bytes : K → List ℕ) (numbers : List (K × ℕ)) (rows : List (ℕ × B)) (next : ℕ) : Type 0 where
    pub rise : RowsRise 0 rows
    pub below : AllByRecursion (λ row. row.0 < next) rows
    pub distinct : IsDistinct (pointwise nat_eq) (keys_of (numbers_of rows))
    pub told : (q : List ℕ) → lookup (λ key. pointwise nat_eq q (bytes key)) numbers ≡ lookup (pointwise nat_eq q) (numbers_of rows)
