use Rattle.std.specs.Prelude.{◌≡◌, ℕ, ◌+◌, ◌%◌, ◌<◌, ◌⊎◌, List, length, get_or, Option, Some, None, IsSome}
use Rattle.std.specs.Ordering.{nat_cmp}
use Rattle.std.specs.FinMap.{FinMap, get, len}
use Rattle.overlay_mapping_table.specs.Homes.{home_number}
use Rattle.overlay_mapping_table.specs.declared.entry.Entry.{Entry}

-- Entries by the names of overlays, how many there may be, and the name in each slot.
pub record NamedEntries : Type 0 where
  pub entries : FinMap nat_cmp Entry
  pub room : ℕ
  pub slots : List (Option ℕ)

-- a name has an entry, or there is room for one more
abbrev pub HasRoomFor : NamedEntries → ℕ → Type 0
HasRoomFor table name = IsSome (get table.entries name) ⊎ (len table.entries < table.room)

-- the names in the slots are those of the map, each in exactly one slot
pub record AreThoseOf (slots : List (Option ℕ)) (entries : FinMap nat_cmp Entry) : Type 0 where
  pub there : (at name : ℕ) → get_or slots at None ≡ Some name → IsSome (get entries name)
  pub each : (name : ℕ) → IsSome (get entries name) → (at : ℕ) × (get_or slots at None ≡ Some name)
  pub once : (name i j : ℕ) → get_or slots i None ≡ Some name → get_or slots j None ≡ Some name → i ≡ j

-- from a name's home upwards to its slot, with slot 0 after the last one, no slot is empty
abbrev pub NoneIsEmptyBefore : List (Option ℕ) → Type 0
NoneIsEmptyBefore slots =
    let n = length slots in
    (at name steps j : ℕ) → get_or slots at None ≡ Some name → steps < n → (home_number name + steps) % n ≡ at → j < steps
    → IsSome (get_or slots ((home_number name + j) % n) None)
