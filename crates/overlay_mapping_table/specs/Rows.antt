use Rattle.std.specs.Prelude.{◌≡◌, ℕ, zero, suc, ◌+◌, ◌%◌, ◌<◌, ◌≤◌, ◌⊎◌, List, [], ◌∷◌, length, get_or, replicate, Option, Some, None}
use Rattle.std.specs.Ordering.{nat_cmp}
use Rattle.std.specs.FinMap.{FinMap, from_entries}
use Rattle.overlay_address.specs.Names.{IsName}
use Rattle.overlay_mapping_table.specs.declared.entry.Entry.{Entry}
use Rattle.overlay_mapping_table.specs.Homes.{home_number, IsWay}

-- Slots, each empty or with a row of a name and a value.

module _ {X : Type 0} where
  -- the rows, from slot 0 on, and the map that they stand for
  abbrev pub rows_of : List (Option (ℕ × X)) → List (ℕ × X)
  rows_of [] = []
  rows_of (None ∷ slots) = rows_of slots
  rows_of (Some row ∷ slots) = row ∷ rows_of slots

  unfoldable pub map_of_slots : List (Option (ℕ × X)) → FinMap nat_cmp X
  map_of_slots slots = from_entries (rows_of slots)

  -- a name stands in one slot at most
  abbrev pub StandOnce : List (Option (ℕ × X)) → Type 0
  StandOnce slots =
      (name : ℕ) (x y : X) (i j : ℕ) → get_or slots i None ≡ Some (name, x) → get_or slots j None ≡ Some (name, y) → i ≡ j

  -- what stands at a place, where there are n slots
  abbrev pub ring : ℕ → List (Option (ℕ × X)) → ℕ → Option (ℕ × X)
  ring n slots place = get_or slots (place % n) None

-- a place has a row that stands w steps behind its home
pub record HasWay {X : Type 0} (n : ℕ) (slots : List (Option (ℕ × X))) (place w : ℕ) : Type 0 where
  pub name : ℕ
  pub value : X
  pub is : ring n slots place ≡ Some (name, value)
  pub way : IsWay n (home_number name) w place

module _ {X : Type 0} where
  -- from a row's home upwards to its place, each place has a row, whose home lies no further on
  abbrev pub AreInOrder : ℕ → List (Option (ℕ × X)) → Type 0
  AreInOrder n slots =
      (place w i : ℕ) → HasWay n slots place w → i < place → place ≤ i + w → (v : ℕ) × HasWay n slots i v × (i + w ≤ place + v)

  -- the slots that names and what stands beside them make: a name of 0 is that of an empty slot
  unfoldable pub slot_seen : ℕ → X → Option (ℕ × X)
  slot_seen zero x = None
  slot_seen (suc name) x = Some (suc name, x)

  unfoldable pub slots_of : List ℕ → List X → List (Option (ℕ × X))
  slots_of [] xs = []
  slots_of (name ∷ names) [] = []
  slots_of (name ∷ names) (x ∷ xs) = slot_seen name x ∷ slots_of names xs

  -- the name in a slot, or 0
  abbrev pub name_in : Option (ℕ × X) → ℕ
  name_in None = 0
  name_in (Some row) = row.0

  -- so many empty slots
  unfoldable pub no_rows : ℕ → List (Option (ℕ × X))
  no_rows n = replicate n None

-- an entry of no lines, which stands beside no name
unfoldable pub nothing : Entry
nothing = record { bits = []; block = record { unit = 0; order = 0 } }

-- beside each name stands a value, and each name is one or 0
pub record AreSlots {X : Type 0} (names : List ℕ) (xs : List X) : Type 0 where
  pub same : length xs ≡ length names
  pub size : length (slots_of names xs) ≡ length names
  pub each : (i : ℕ) → (get_or names i 0 ≡ 0) ⊎ IsName (get_or names i 0)
