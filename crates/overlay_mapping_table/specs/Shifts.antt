use Rattle.std.specs.Prelude.{◌≡◌, ℕ, ◌+◌, ◌-◌, ◌<◌, ◌≤◌, List, length, get_or, Option, Some, None}
use Rattle.overlay_mapping_table.specs.declared.entry.Entry.{Entry}
use Rattle.overlay_mapping_table.specs.declared.full.Full.{Full}
use Rattle.overlay_mapping_table.specs.Rows.{ring, StandOnce, HasWay}

-- Rows that move by one place.

-- what the slots before another one have stands one slot further on, and the slots on either side have the same
pub record AreOneUp (old new : List (Option (ℕ × Entry))) (from end : ℕ) : Type 0 where
  pub size : length new ≡ length old
  pub up : (i : ℕ) → from ≤ i → i < end → get_or new (i + 1) None ≡ get_or old i None
  pub below : (i : ℕ) → i < from → get_or new i None ≡ get_or old i None
  pub above : (i : ℕ) → end < i → get_or new i None ≡ get_or old i None

-- a place is the first empty one from another on
pub record IsEnd (n : ℕ) (slots : List (Option (ℕ × Entry))) (place end : ℕ) : Type 0 where
  pub low : place ≤ end
  pub near : end < place + n
  pub taken : (i : ℕ) → place ≤ i → i < end → ring n slots i ≡ None → ⊥
  pub bare : ring n slots end ≡ None

-- each of these places has a row
abbrev pub HaveRows : List (Option (ℕ × Entry)) → Full → Type 0
HaveRows slots full = (i : ℕ) → full.from ≤ i → i < full.end → ring (length slots) slots i ≡ None → ⊥

-- the rows behind a place up to the last one stand behind their homes, and what comes next doesn't
pub record IsLastRow (n : ℕ) (slots : List (Option (ℕ × Entry))) (hole last : ℕ) : Type 0 where
  pub low : hole ≤ last
  pub passed : (i : ℕ) → hole < i → i ≤ last → (v : ℕ) × HasWay n slots i (v + 1)
  pub stops : (v : ℕ) → HasWay n slots (last + 1) v → v ≡ 0
  pub end : (e : ℕ) × (last < e) × (e < hole + n) × (ring n slots e ≡ None)

-- the same rows, each in one slot
pub record HaveSameRows (old new : List (Option (ℕ × Entry))) : Type 0 where
  pub size : length new ≡ length old
  pub apart : StandOnce new
  pub kept : (name : ℕ) (x : Entry) (i : ℕ) → get_or old i None ≡ Some (name, x) → (j : ℕ) × (get_or new j None ≡ Some (name, x))
  pub back : (name : ℕ) (x : Entry) (j : ℕ) → get_or new j None ≡ Some (name, x) → (i : ℕ) × (get_or old i None ≡ Some (name, x))

-- what stood from a place on before an empty one stands one place further on
pub record AreRaised (n : ℕ) (old new : List (Option (ℕ × Entry))) (place end : ℕ) : Type 0 where
  pub same : HaveSameRows old new
  pub up : (i : ℕ) → place ≤ i → i < end → ring n new (i + 1) ≡ ring n old i
  pub other : (i : ℕ) → end < i → i < place + n → ring n new i ≡ ring n old i
  pub bare : ring n new place ≡ None

-- what stood behind an empty place, up to the last one, stands one place before
pub record AreLowered (n : ℕ) (old new : List (Option (ℕ × Entry))) (hole last : ℕ) : Type 0 where
  pub same : HaveSameRows old new
  pub down : (i : ℕ) → hole ≤ i → i < last → ring n new i ≡ ring n old (i + 1)
  pub other : (i : ℕ) → last < i → i < hole + n → ring n new i ≡ ring n old i
  pub bare : ring n new last ≡ None
