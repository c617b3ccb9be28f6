use Rattle.std.specs.Prelude.{ℕ, ◌+◌, ◌*◌, ◌==◌, nat_lt, if◌then◌else◌, List, map, length}
use Rattle.std.specs.List.{sum_by}
use Rattle.std.specs.Ordering.{nat_cmp}
use Rattle.std.specs.FinSet.{FinSet, from_list, len, remove}
use Rattle.sizes.specs.declared.TheConstants.{FRAME_UNITS}
use Rattle.ledger.specs.Ledger.{Holding, Ledger, all_holdings}

-- Units, counted anew over all pages of all spaces.

-- the units of a segment for as many lines
unfoldable pub class : ℕ → ℕ
class lines =
    if lines == 0 then 0 else
    if nat_lt lines 4 then 1 else
    if nat_lt lines 8 then 2 else
    if nat_lt lines 16 then 4 else
    if nat_lt lines 32 then 8 else 16

-- the different origins of pages, other than 0
unfoldable pub origins : List Holding → FinSet nat_cmp
origins pages = remove (from_list (map (λ holding. holding.origin) pages)) 0

-- a frame for the zero page, one for each different origin other than 0, and a segment for each page's own lines
unfoldable pub units_of : List Holding → ℕ
units_of pages = FRAME_UNITS + FRAME_UNITS * len (origins pages) + sum_by (λ holding. class (length holding.own)) pages

unfoldable pub units : Ledger → ℕ
units ledger = units_of (all_holdings ledger)

-- a number for each page, summed over all pages
unfoldable pub tally : (Holding → ℕ) → Ledger → ℕ
tally count ledger = sum_by count (all_holdings ledger)

-- how many own lines all pages have, how many pages have own lines, and how many have an origin
unfoldable pub own_lines : Ledger → ℕ
own_lines ledger = tally (λ holding. length holding.own) ledger

unfoldable pub overlaid_pages : Ledger → ℕ
overlaid_pages ledger = tally (λ holding. if nat_lt 0 (length holding.own) then 1 else 0) ledger

unfoldable pub sharers : Ledger → ℕ → ℕ
sharers ledger origin = tally (λ holding. if holding.origin == origin then 1 else 0) ledger
