use Rattle.std.specs.Prelude.{◌≡◌, ℕ, ◌+◌, ◌<◌, ◌≤◌, ◌⊎◌, nat_lt, cond, List, length, get_or, map}
use Rattle.std.specs.List.{range_with_len}
use Rattle.overlay_mapping_table.specs.declared.entry.Entry.{Entry}
use Rattle.overlay_mapping_table.specs.declared.gaps.Gap.{Gap}
use Rattle.overlay_mapping_table.specs.Rows.{nothing, AreSlots}

-- Lists of which one stretch is written further on than its numbers say.

-- the gap's places are some of so many
pub record IsGapIn (n : ℕ) (gap : Gap) : Type 0 where
  pub order : gap.at ≤ gap.end
  pub inside : gap.end + gap.len ≤ n

abbrev pub no_gap : Gap
no_gap = record { at = 0; end = 0; len = 0 }

module _ {X : Type 0} where
  -- an element, as it is seen
  unfoldable pub seen_at : List X → X → Gap → ℕ → X
  seen_at items rest gap i =
      cond (nat_lt i gap.at) (get_or items i rest)
      (cond (nat_lt i gap.end) (get_or items (i + gap.len) rest) (cond (nat_lt i (gap.end + gap.len)) rest (get_or items i rest)))

  -- all of them
  unfoldable pub seen_slots : List X → X → Gap → List X
  seen_slots items rest gap = map (seen_at items rest gap) (range_with_len 0 (length items))

-- an element is written at a place
abbrev pub IsWrittenAt : Gap → ℕ → ℕ → Type 0
IsWrittenAt gap i place =
    ((i < gap.at) × (place ≡ i))
    ⊎ (((gap.at ≤ i) × ((i < gap.end) × (place ≡ i + gap.len))) ⊎ ((gap.at ≤ i) × ((gap.end + gap.len ≤ i) × (place ≡ i))))

-- what lay between two places of a gap lies on its other side
pub record IsShifted {X : Type 0} (old new : List X) (at to len : ℕ) : Type 0 where
  pub size : length new ≡ length old
  pub below : (i : ℕ) (d : X) → i < at → i < to → get_or new i d ≡ get_or old i d
  pub up : (i : ℕ) (d : X) → to ≤ i → i < at → get_or new (i + len) d ≡ get_or old i d
  pub down : (i : ℕ) (d : X) → at ≤ i → i < to → get_or new i d ≡ get_or old (i + len) d
  pub above : (i : ℕ) (d : X) → at + len ≤ i → to + len ≤ i → get_or new i d ≡ get_or old i d

-- some elements have one value, and the others stay
pub record AreFilled {X : Type 0} (old new : List X) (rest : X) (from n : ℕ) : Type 0 where
  pub size : length new ≡ length old
  pub inside : (i : ℕ) (d : X) → from ≤ i → i < from + n → get_or new i d ≡ rest
  pub below : (i : ℕ) (d : X) → i < from → get_or new i d ≡ get_or old i d
  pub above : (i : ℕ) (d : X) → from + n ≤ i → get_or new i d ≡ get_or old i d

-- what stood before another place stands one further on. Behind that one some may have the one value
pub record AreUp {X : Type 0} (old new : List X) (rest : X) (from end room : ℕ) : Type 0 where
  pub size : length new ≡ length old
  pub up : (i : ℕ) (d : X) → from ≤ i → i < end → get_or new (i + 1) d ≡ get_or old i d
  pub below : (i : ℕ) (d : X) → i < from → get_or new i d ≡ get_or old i d
  pub above : (i : ℕ) (d : X) → end < i → (get_or new i d ≡ get_or old i d) ⊎ ((i < end + room) × (get_or new i d ≡ rest))

-- what stood behind a place, up to the last one, stands one before
pub record AreDown {X : Type 0} (old new : List X) (rest : X) (to last : ℕ) : Type 0 where
  pub size : length new ≡ length old
  pub down : (i : ℕ) (d : X) → to ≤ i → i < last → get_or new i d ≡ get_or old (i + 1) d
  pub below : (i : ℕ) (d : X) → i < to → get_or new i d ≡ get_or old i d
  pub here : (d : X) → get_or new last d ≡ rest
  pub above : (i : ℕ) (d : X) → last < i → get_or new i d ≡ get_or old i d

-- the names behind another one, so many, are none
abbrev pub ShowNone : List ℕ → ℕ → ℕ → Type 0
ShowNone names end room = (i : ℕ) → end < i → i < end + room → get_or names i 0 ≡ 0

-- names and entries beside each other, with one gap
pub record AreLaid (names : List ℕ) (entries : List Entry) (gap : Gap) : Type 0 where
  pub same : length entries ≡ length names
  pub room : IsGapIn (length names) gap
  pub slots : AreSlots (seen_slots names 0 gap) (seen_slots entries nothing gap)
