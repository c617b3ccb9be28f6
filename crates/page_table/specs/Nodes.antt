use Rattle.std.specs.Prelude.{◌≡◌, ℕ, zero, suc, ◌+◌, ◌*◌, ◌/◌, ◌%◌, ◌^◌, ◌<◌, nat_lt, true, if◌then◌else◌, Option, Some, None, IsSome}
use Rattle.std.specs.Ordering.{nat_cmp}
use Rattle.std.specs.FinMap.{FinMap, empty, get, insert, len}
use Rattle.sizes.specs.declared.TheConstants.{TABLE_SLOTS}
use Rattle.page_set.specs.Sets.{Chunks, holds}
use Rattle.page_table.specs.declared.entry.PageEntry.{PageEntry}
use Rattle.page_table.specs.Table.{Pages}

-- Nodes of 512 slots each. A slot is named by a number, that of its node times 512 and its place in the node. A slot of a node on
-- the first three levels may have a link to a node of the next, and one of a leaf an entry.

abbrev pub Links : Type 0
Links = FinMap nat_cmp ℕ

abbrev pub slot : ℕ → ℕ → ℕ
slot node digit = TABLE_SLOTS * node + digit

-- the digits of a page's number, from the last one on
abbrev pub nth_digit : ℕ → ℕ → ℕ
nth_digit zero page = page % TABLE_SLOTS
nth_digit (suc i) page = nth_digit i (page / TABLE_SLOTS)

-- a table: its pages; the child that a slot has; the entry that a slot has; which pages are overlaid
pub record Table : Type 0 where
  pub pages : Pages
  pub links : Links
  pub leaves : Pages
  pub overlaid : Chunks

-- each overlaid page is there
abbrev pub OverlaidAreThere : Table → Type 0
OverlaidAreThere table = (page : ℕ) → holds table.overlaid page ≡ true → IsSome (get table.pages page)

-- a table with other overlaid pages
abbrev pub with_overlaid : Table → Chunks → Table
with_overlaid table overlaid = record { pages = table.pages; links = table.links; leaves = table.leaves; overlaid = overlaid }

-- each node has a link to it, but the first one; without a link there is none
abbrev pub nodes_with : ℕ → ℕ
nodes_with zero = 0
nodes_with (suc n) = n + 2

abbrev pub nodes_of : Table → ℕ
nodes_of table = nodes_with (len table.links)

-- the child of a node at a digit, and the entry of a leaf there; none where there isn't the node
abbrev pub child_at : Links → Option ℕ → ℕ → Option ℕ
child_at links None d = None
child_at links (Some node) d = get links (slot node d)

abbrev pub leaf_at : Pages → Option ℕ → ℕ → Option PageEntry
leaf_at leaves None d = None
leaf_at leaves (Some node) d = get leaves (slot node d)

-- the four nodes of a page's path, and what the last one has for it
abbrev pub fourth_of : Links → ℕ → Option ℕ
fourth_of links page = child_at links (child_at links (child_at links (Some 0) (nth_digit 3 page)) (nth_digit 2 page)) (nth_digit 1 page)

abbrev pub by_path : Table → ℕ → Option PageEntry
by_path table page = leaf_at table.leaves (fourth_of table.links page) (nth_digit 0 page)

-- Where there is no node there is no page, and else a page has what its path leads to. Pages are below 2^36.
pub record HasPaths (table : Table) : Type 0 where
  pub bare : nodes_of table ≡ 0 → table.pages ≡ empty
  pub path : (page : ℕ) → page < 2 ^ 36 → get table.pages page ≡ by_path table page

-- How the pages are read off the nodes.

-- the node of a level for the digits above it; the root has level 0
abbrev pub node_at : Links → ℕ → ℕ → Option ℕ
node_at links zero above = Some 0
node_at links (suc level) above = child_at links (node_at links level (above / TABLE_SLOTS)) (above % TABLE_SLOTS)

-- how many nodes a level may have
abbrev pub size : ℕ → ℕ
size zero = 1
size (suc level) = TABLE_SLOTS * size level

unfoldable pub page_end : ℕ
page_end = 2 ^ 36

-- the slot of a page
abbrev pub slot_in : Option ℕ → ℕ → Option ℕ
slot_in None d = None
slot_in (Some node) d = Some (slot node d)

abbrev pub page_slot : Links → ℕ → Option ℕ
page_slot links page = if nat_lt page page_end then slot_in (node_at links 3 (page / TABLE_SLOTS)) (page % TABLE_SLOTS) else None

abbrev pub look : (ℕ → Option PageEntry) → Option ℕ → Option PageEntry
look has None = None
look has (Some s) = has s

-- the map that has below a number what a function has
abbrev pub put_some : Pages → ℕ → Option PageEntry → Pages
put_some pages page None = pages
put_some pages page (Some e) = insert pages page e

unfoldable pub map_below : (ℕ → Option PageEntry) → ℕ → Pages
map_below has zero = empty
map_below has (suc n) = put_some (map_below has n) n (has n)

-- the pages whose slots have an entry
unfoldable pub pages_by : Links → Pages → Pages
pages_by links leaves = map_below (λ page. look (get leaves) (page_slot links page)) page_end
