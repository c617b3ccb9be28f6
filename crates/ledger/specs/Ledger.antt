use Rattle.std.specs.Prelude.{ℕ, ◌==◌, Bool, false, not, ◌&&◌, List, Option}
use Rattle.std.specs.List.{flat_map, list_any}
use Rattle.std.specs.Option.{option_map_or, unwrap_or}
use Rattle.std.specs.Ordering.{nat_cmp}
use Rattle.std.specs.FinMap.{FinMap, empty, get, insert, remove, values}

-- The ledger. Two pages share their lines where they have the same origin; the lines that a page has apart from that
-- are its own.

-- what a page holds: the number of its origin, which is 0 where its lines are zeros, and its own lines, ascending
pub record Holding : Type 0 where
  pub origin : ℕ
  pub own : List ℕ

-- the pages of a space, by number
abbrev pub Space : Type 0
Space = FinMap nat_cmp Holding

-- the spaces, by number
abbrev pub Ledger : Type 0
Ledger = FinMap nat_cmp Space

-- the pages of a space; none where it isn't there
unfoldable pub pages_of : Ledger → ℕ → Space
pages_of ledger space = unwrap_or (get ledger space) empty

-- what a page of a space holds, if it is there
unfoldable pub holding_at : Ledger → ℕ → ℕ → Option Holding
holding_at ledger space page = get (pages_of ledger space) page

-- the ledger with a page put there, and without one
unfoldable pub with_page : Ledger → ℕ → ℕ → Holding → Ledger
with_page ledger space page holding = insert ledger space (insert (pages_of ledger space) page holding)

unfoldable pub without_page : Ledger → ℕ → ℕ → Ledger
without_page ledger space page = insert ledger space (remove (pages_of ledger space) page)

-- what all pages of all spaces hold
unfoldable pub all_holdings : Ledger → List Holding
all_holdings ledger = flat_map (λ (space : Space). values space) (values ledger)

-- whether some page has an origin
unfoldable pub has_origin : Ledger → ℕ → Bool
has_origin ledger origin = list_any (λ holding. holding.origin == origin) (all_holdings ledger)

-- whether an origin isn't 0 and no page has it
unfoldable pub is_unused : Ledger → ℕ → Bool
is_unused ledger origin = not (origin == 0) && not (has_origin ledger origin)

-- whether a page is alone: its origin isn't 0, and no other page has it
unfoldable pub is_alone : Ledger → ℕ → ℕ → Bool
is_alone ledger space page = option_map_or (λ holding. is_unused (without_page ledger space page) holding.origin) (holding_at ledger space page) false
