use Rattle.std.specs.Prelude.{◌≡◌, ℕ, ◌+◌, ◌*◌, ◌^◌, ◌<◌, ◌≤◌, List, length, get_or, Option, Some, None}
use Rattle.std.specs.Int.{IsPowerOfTwo}
use Rattle.std.specs.Ordering.{nat_cmp}
use Rattle.std.specs.FinMap.{FinMap, remove}
use Rattle.overlay_mapping_table.specs.declared.entry.Entry.{Entry}
use Rattle.overlay_mapping_table.specs.Homes.{home_number, IsWay}
use Rattle.overlay_mapping_table.specs.Rows.{map_of_slots, ring, StandOnce, AreInOrder, HasWay}

-- What a probe asks of slots and says of them.

-- a slot is empty
pub record IsEmpty (slots : List (Option (ℕ × Entry))) (at : ℕ) : Type 0 where
  pub inside : at < length slots
  pub bare : get_or slots at None ≡ None

-- slots in which a probe finds what is there, and ends
pub record AreSound (slots : List (Option (ℕ × Entry))) : Type 0 where
  pub power : IsPowerOfTwo (length slots)
  pub most : length slots ≤ 2 ^ 24
  pub apart : StandOnce slots
  pub order : AreInOrder (length slots) slots
  pub spare : (at : ℕ) × IsEmpty slots at

-- a name stands in a slot
pub record StandsAt (slots : List (Option (ℕ × Entry))) (name at : ℕ) : Type 0 where
  pub inside : at < length slots
  pub value : Entry
  pub is : get_or slots at None ≡ Some (name, value)

-- a place has a row whose home lies before a bound
pub record IsBefore (n : ℕ) (slots : List (Option (ℕ × Entry))) (bound place : ℕ) : Type 0 where
  pub way : ℕ
  pub has : HasWay n slots place way
  pub before : place < bound + way

-- the places from one on up to another one have rows whose homes lie before the first
pub record IsPassed (n : ℕ) (slots : List (Option (ℕ × Entry))) (from place : ℕ) : Type 0 where
  pub low : from ≤ place
  pub passed : (i : ℕ) → from ≤ i → i < place → IsBefore n slots from i

-- and the other one has none
pub record IsBeyond (n : ℕ) (slots : List (Option (ℕ × Entry))) (from place : ℕ) : Type 0 where
  pub passed : IsPassed n slots from place
  pub near : place < from + n
  pub stops : IsBefore n slots from place → ⊥

-- from a name's home on, the places up to one have rows whose homes lie no further on, and the name isn't among them
pub record IsPast (n : ℕ) (slots : List (Option (ℕ × Entry))) (name home place : ℕ) : Type 0 where
  pub low : home ≤ place
  pub led : (i : ℕ) → home ≤ i → i < place → IsBefore n slots (home + 1) i
  pub other : (i : ℕ) (x : Entry) → home ≤ i → i < place → ring n slots i ≡ Some (name, x) → ⊥

-- a name stands nowhere, and would stand at a place: behind those whose homes lie no further on
pub record WouldStandAt (slots : List (Option (ℕ × Entry))) (name place : ℕ) : Type 0 where
  pub low : length slots ≤ place
  pub near : place < 3 * length slots
  pub steps : ℕ
  pub way : IsWay (length slots) (home_number name) steps place
  pub led : (i : ℕ) → i < place → place ≤ i + steps → (v : ℕ) × HasWay (length slots) slots i v × (i + steps ≤ place + v)
  pub stops : (v : ℕ) → HasWay (length slots) slots place v → v < steps
  pub absent : (i : ℕ) (x : Entry) → get_or slots i None ≡ Some (name, x) → ⊥

-- as many slots, which stand for a map now
pub record AreNow (old new : List (Option (ℕ × Entry))) (entries : FinMap nat_cmp Entry) : Type 0 where
  pub size : length new ≡ length old
  pub apart : StandOnce new
  pub order : AreInOrder (length new) new
  pub map : map_of_slots new ≡ entries

-- the row of a slot was taken out
abbrev pub IsTakenOut : List (Option (ℕ × Entry)) → List (Option (ℕ × Entry)) → ℕ → Type 0
IsTakenOut old new at = (name : ℕ) → StandsAt old name at → AreNow old new (remove (map_of_slots old) name)
