use Rattle.std.specs.Prelude.{◌≡◌, ℕ, ◌<◌, ◌≤◌, ◌&&◌, nat_eq, nat_le, nat_lt, if◌then◌else◌, Option, Some, None, IsSome}
use Rattle.std.specs.Option.{option_map}
use Rattle.std.specs.FinMap.{get}
use Rattle.ovl_io.specs.declared.perms.Perms.{Perms}
use Rattle.page_table.specs.Table.{Pages}
use Rattle.page_table.specs.declared.entry.PageEntry.{PageEntry}

-- What is done to a table of the base's pages.

-- the least page from one on and below another one, or that there is none
abbrev pub IsNextBelow : Pages → ℕ → ℕ → Option ℕ → Type 0
IsNextBelow pages from until None = (q : ℕ) → from ≤ q → q < until → get pages q ≡ None
IsNextBelow pages from until (Some page) =
    (from ≤ page) × (page < until) × IsSome (get pages page) × ((q : ℕ) → from ≤ q → q < page → get pages q ≡ None)

-- the pages from one on and below another one are gone, and every other page is as before
abbrev pub IsCutOut : Pages → Pages → ℕ → ℕ → Type 0
IsCutOut old new from until = (q : ℕ) → get new q ≡ (if nat_le from q && nat_lt q until then None else get old q)

-- a page, where it is there, has these permissions, and every other page is as before
abbrev pub IsFitted : Pages → Pages → ℕ → Perms → Type 0
IsFitted old new page perms =
    (q : ℕ) → get new q ≡ (if nat_eq q page then option_map (λ (e : PageEntry). record { perms = perms; frame = e.frame }) (get old q) else get old q)
