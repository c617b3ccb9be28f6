use Rattle.std.specs.Prelude.{◌≡◌, ℕ, ◌+◌, ◌-◌, ◌<◌, ◌≤◌, ◌⊎◌, List, ◌++◌, length, get_or, Option, Some, None}
use Rattle.std.specs.FinMap.{get}
use Rattle.number_maps.specs.Rows.{RowsRise, key_at, map_of}
use Rattle.page_table.specs.Nodes.{Links}

-- What is kept of the links: two lists of rows by rising slots, one of links that are settled and one of those that came last.

-- the children of slots, and for how many more there is room
pub record Linked : Type 0 where
  pub children : Links
  pub room : ℕ

-- no slot has a row in both lists
abbrev pub AreApart : List (ℕ × ℕ) → List (ℕ × ℕ) → Type 0
AreApart settled recent = (k c d : ℕ) → get (map_of settled) k ≡ Some c → get (map_of recent) k ≡ Some d → ⊥

pub record AreLinks (settled recent : List (ℕ × ℕ)) : Type 0 where
  pub rise : RowsRise 0 settled
  pub rise_too : RowsRise 0 recent
  pub apart : AreApart settled recent

-- what is seen of them: the links of both
abbrev pub seen_links : List (ℕ × ℕ) → List (ℕ × ℕ) → ℕ → Linked
seen_links settled recent room = record { children = map_of (settled ++ recent); room = room - length recent }

-- the links from a slot on begin at a place
pub record IsStart (links : List (ℕ × ℕ)) (key at : ℕ) : Type 0 where
  pub inside : at ≤ length links
  pub before : (j : ℕ) → j < at → key_at links j < key
  pub behind : (j : ℕ) → at ≤ j → j < length links → key ≤ key_at links j

-- the link at a place isn't behind that of another list at another place
pub record IsFirst (links others : List (ℕ × ℕ)) (at other : ℕ) (link : ℕ × ℕ) : Type 0 where
  pub there : at < length links
  pub is : get_or links at (0, 0) ≡ link
  pub first : other < length others → link.0 ≤ key_at others other

-- the first link of two lists from two places on, with the places behind it
abbrev pub HasStep : List (ℕ × ℕ) → List (ℕ × ℕ) → ℕ → ℕ → Option ((ℕ × ℕ) × ℕ × ℕ) → Type 0
HasStep settled recent at other None = (length settled ≤ at) × (length recent ≤ other)
HasStep settled recent at other (Some found) =
    (IsFirst settled recent at other found.0 × (found.1 ≡ at + 1) × (found.2 ≡ other))
    ⊎ (IsFirst recent settled other at found.0 × (found.1 ≡ at) × (found.2 ≡ other + 1))

-- one list of both
pub record AreMerged (settled recent rows : List (ℕ × ℕ)) : Type 0 where
  pub rise : RowsRise 0 rows
  pub same : map_of rows ≡ map_of (settled ++ recent)
