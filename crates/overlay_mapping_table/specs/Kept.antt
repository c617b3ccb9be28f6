use Rattle.std.specs.Prelude.{◌≡◌, ℕ, ◌*◌, ◌<◌, ◌≤◌, List, length, map, Option}
use Rattle.std.specs.Int.{IsNextPowerOfTwo}
use Rattle.std.specs.Option.{option_map}
use Rattle.std.specs.FinMap.{len}
use Rattle.sizes.specs.declared.TheConstants.{FRAME_UNITS, MOST_FRAMES}
use Rattle.overlay_mapping_table.specs.declared.entry.Entry.{Entry}
use Rattle.overlay_mapping_table.specs.Rows.{map_of_slots, StandOnce, AreInOrder}

-- What a table keeps. This is true of the slots of every table.
pub record AreTableSlots (slots : List (Option (ℕ × Entry))) (count room : ℕ) : Type 0 where
  pub size : IsNextPowerOfTwo (2 * room) (length slots)
  pub apart : StandOnce slots
  pub order : AreInOrder (length slots) slots
  pub counted : count ≡ len (map_of_slots slots)
  pub few : count ≤ room
  pub some : 0 < room
  pub most : room ≤ FRAME_UNITS * MOST_FRAMES

-- the names, slot by slot
abbrev pub names_of : List (Option (ℕ × Entry)) → List (Option ℕ)
names_of slots = map (λ (slot : Option (ℕ × Entry)). option_map (λ (row : ℕ × Entry). row.0) slot) slots
