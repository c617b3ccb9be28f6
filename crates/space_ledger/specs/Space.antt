use Rattle.std.specs.Prelude.{◌≡◌, ℕ, zero, suc, ◌+◌, ◌≤◌, ◌<◌, ◌^◌, Bool, true, false, IsTrue, nat_le, nat_lt, Option, Some, None, IsSome}
use Rattle.std.specs.FinMap.{empty, get, insert, len, remove, retain_keys}
use Rattle.page_set.specs.Sets.{Chunks, holds}
use Rattle.page_table.specs.Table.{Pages, IsMapped, is_within}
use Rattle.page_table.specs.Run.{IsRunFrom, entry_at}
use Rattle.page_table.specs.declared.entry.PageEntry.{PageEntry}
use Rattle.page_table.specs.declared.run.PageRun.{PageRun}
use Rattle.space_maps.specs.Spaces.{SpaceOf}

-- The pages of one space.

-- its pages with their entries
abbrev pub SpaceTable : Type 0
SpaceTable = SpaceOf PageEntry

-- with its overlaid pages; of those that await it says nothing
pub record OverlaidSpace : Type 0 where
  pub table : SpaceTable
  pub overlaid : Chunks

-- the pages of a table below one, and those from it on
unfoldable pub pages_below : Pages → ℕ → Pages
pages_below table end = retain_keys table (λ page. nat_lt page end)

unfoldable pub pages_from : Pages → ℕ → Pages
pages_from table end = retain_keys table (λ page. nat_le end page)

-- what is true of what is kept: how many pages there are, and how far the end reaches
pub record IsCounted (table : Pages) (end count : ℕ) : Type 0 where
  pub pages : count ≡ len (pages_below table end)
  pub reach : end < 2 ^ 64

-- the least page not below one, or that there is none
abbrev pub IsFirstPageFrom : Pages → ℕ → Option ℕ → Type 0
IsFirstPageFrom pages page None = (q : ℕ) → page ≤ q → get pages q ≡ None
IsFirstPageFrom pages page (Some found) = (page ≤ found) × IsSome (get pages found) × ((q : ℕ) → page ≤ q → q < found → get pages q ≡ None)

-- the least overlaid page not below one, or that there is none
abbrev pub IsLeastOverlaid : OverlaidSpace → ℕ → Option ℕ → Type 0
IsLeastOverlaid space page None = (q : ℕ) → page ≤ q → IsSome (get space.table.pages q) → holds space.overlaid q ≡ false
IsLeastOverlaid space page (Some found) =
    (page ≤ found) × IsSome (get space.table.pages found) × (holds space.overlaid found ≡ true)
    × ((q : ℕ) → page ≤ q → q < found → IsSome (get space.table.pages q) → holds space.overlaid q ≡ false)

-- none of the n pages from `from` on is overlaid
abbrev pub AreNotOverlaid : Chunks → ℕ → ℕ → Type 0
AreNotOverlaid overlaid from n = (page : ℕ) → IsTrue (is_within from n page) → holds overlaid page ≡ false

-- a page with another entry, and without one
abbrev pub with_entry : SpaceTable → ℕ → PageEntry → SpaceTable
with_entry space page entry = record { pages = insert space.pages page entry; awaiting = space.awaiting; speculating = space.speculating }

abbrev pub without_page : SpaceTable → ℕ → SpaceTable
without_page space page = record { pages = remove space.pages page; awaiting = space.awaiting; speculating = space.speculating }

-- pages taken away, one after the other
unfoldable pub without_pages : SpaceTable → ℕ → ℕ → SpaceTable
without_pages space from zero = space
without_pages space from (suc k) = without_page (without_pages space from k) (from + k)

-- the n pages from `from` on have the entry, and nothing else changed
pub record HasMapped (old : SpaceTable) (from n : ℕ) (entry : PageEntry) (new : SpaceTable) : Type 0 where
  pub pages : IsMapped old.pages from n entry new.pages
  pub count : len new.pages ≡ len old.pages + n
  pub awaiting : new.awaiting ≡ old.awaiting
  pub mark : new.speculating ≡ old.speculating

-- the pages of a table await
abbrev pub adopted : SpaceTable → Pages → SpaceTable
adopted space table = record { pages = empty; awaiting = table; speculating = space.speculating }

-- a page is the least of those that await
pub record IsLeast (awaiting : Pages) (page : ℕ) : Type 0 where
  pub there : IsSome (get awaiting page)
  pub least : (q : ℕ) → IsSome (get awaiting q) → page ≤ q

-- a page awaits no more
abbrev pub awaited : SpaceTable → ℕ → PageEntry → SpaceTable
awaited space page entry = record { pages = insert space.pages page entry; awaiting = remove space.awaiting page; speculating = space.speculating }

-- the first pages of a run await no more, one after the other
unfoldable pub run_awaited : SpaceTable → PageRun → ℕ → SpaceTable
run_awaited space run zero = space
run_awaited space run (suc k) = awaited (run_awaited space run k) (run.page + k) (entry_at run k)

abbrev pub marked : SpaceTable → Bool → SpaceTable
marked space on = record { pages = space.pages; awaiting = space.awaiting; speculating = on }

-- the first pages that await, as many as lie in one run and below a page, or that none below it awaits
abbrev pub AwaitsRun : Pages → ℕ → Option PageRun → Type 0
AwaitsRun awaiting until None = (page : ℕ) → page < until → get awaiting page ≡ None
AwaitsRun awaiting until (Some run) = IsRunFrom awaiting 0 run × (run.page + run.n ≤ until)

-- as many of the first pages of a run
abbrev pub first_of : PageRun → ℕ → PageRun
first_of run n = record { page = run.page; n = n; entry = run.entry; rising = run.rising }

-- the pages of a run that are below one, if there are any
abbrev pub IsRunBelow : PageRun → ℕ → Option PageRun → Type 0
IsRunBelow run until None = until ≤ run.page
IsRunBelow run until (Some part) = (part ≡ first_of run part.n) × (0 < part.n) × (part.n ≤ run.n) × (run.page + part.n ≤ until)

-- as many of the first pages of a run that begins with a page, where there are any
abbrev pub IsStartOf : PageRun → ℕ → ℕ → Option PageRun → Type 0
IsStartOf run page n None = Unit {0}
IsStartOf run page n (Some part) = (run.page ≡ page) × (0 < n) × (part ≡ first_of run n)
