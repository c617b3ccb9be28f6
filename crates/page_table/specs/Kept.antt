use Rattle.std.specs.Prelude.{◌≡◌, ℕ, zero, suc, ◌+◌, ◌-◌, ◌*◌, ◌^◌, ◌<◌, ◌≤◌, Bool, true, false, List, [], ◌∷◌, length, get_or, nat_le, nat_lt, if◌then◌else◌, Option, Some, None, IsSome}
use Rattle.std.specs.FinMap.{empty, get, insert, len}
use Rattle.sizes.specs.declared.TheConstants.{TABLE_SLOTS}
use Rattle.page_set.specs.Sets.{AreChunks, Chunks, LieInFew, Members, holds}
use Rattle.page_table.specs.Next.{NoneFrom}
use Rattle.page_table.specs.Nodes.{Links, Table, look, node_at, slot, page_slot, pages_by, size}
use Rattle.page_table.specs.declared.entry.PageEntry.{PageEntry}
use Rattle.page_table.specs.declared.run.PageRun.{PageRun}
use Rattle.page_table.specs.Table.{Pages, IsMapped, is_within}
use Rattle.page_table.specs.Run.{entry_at}

-- What a table keeps: runs of pages, by rising pages, each page in one run.

-- the entry that a run has for a page, and the one that runs have: that of the first that holds it
abbrev pub entry_for : PageRun → ℕ → PageEntry
entry_for run page = entry_at run (page - run.page)

abbrev pub lies_in : PageRun → ℕ → Bool
lies_in run page = is_within run.page run.n page

abbrev pub find_in : List PageRun → ℕ → Option PageEntry
find_in [] page = None
find_in (run ∷ runs) page = if lies_in run page then Some (entry_for run page) else find_in runs page

-- the pages that runs stand for: the first n of a run put into a table, and all of all runs
abbrev pub put_run : PageRun → ℕ → Pages → Pages
put_run run zero pages = pages
put_run run (suc n) pages = insert (put_run run n pages) (run.page + n) (entry_at run n)

abbrev pub run_pages : List PageRun → Pages
run_pages [] = empty
run_pages (run ∷ runs) = put_run run run.n (run_pages runs)

-- how many there are
abbrev pub total : List PageRun → ℕ
total [] = 0
total (run ∷ runs) = run.n + total runs

-- a run has a page, and fewer than 2^32, its pages are low, and each frame is a number of 32 bits
pub record IsRun (run : PageRun) : Type 0 where
  pub some : 0 < run.n
  pub few : run.n < 2 ^ 32
  pub low : run.page + run.n ≤ 2 ^ 41
  pub frames : (i : ℕ) → i < run.n → (entry_at run i).frame < 2 ^ 32

-- runs come one after the other, the first from a page on
abbrev pub ComeInOrder : ℕ → List PageRun → Type 0
ComeInOrder from [] = Unit {0}
ComeInOrder from (run ∷ runs) = (from ≤ run.page) × IsRun run × ComeInOrder (run.page + run.n) runs

-- This is true of the runs of every table, of how many pages it has, and of the runs that it has room for: a page may become a run of
-- its own without memory.
pub record AreTableRuns (runs : List PageRun) (count room : ℕ) : Type 0 where
  pub rise : ComeInOrder 0 runs
  pub few : count < 2 ^ 32
  pub counted : count ≡ total runs
  pub roomy : total runs ≤ room

-- the run at a place
pub no_run : PageRun
no_run = record { page = 0; n = 0; entry = record { perms = record { 0 = 0 }; frame = 0 }; rising = false }

abbrev pub run_at : List PageRun → ℕ → PageRun
run_at runs at = get_or runs at no_run

-- a run lies before a page
abbrev pub is_before : ℕ → PageRun → Bool
is_before page run = nat_le run.n (page - run.page)

-- the run that holds a page stands at a place, or the first behind it
pub record IsRunPlace (runs : List PageRun) (page at : ℕ) : Type 0 where
  pub inside : at ≤ length runs
  pub before : (i : ℕ) → i < at → is_before page (run_at runs i) ≡ true
  pub behind : (i : ℕ) → at ≤ i → i < length runs → is_before page (run_at runs i) ≡ false

-- a run holds a page, or is the first behind it
pub record IsRunBehind (runs : List PageRun) (page : ℕ) (run : PageRun) : Type 0 where
  pub own : IsRun run
  pub to : page < run.page + run.n
  pub none : (q : ℕ) → page ≤ q → q < run.page → find_in runs q ≡ None
  pub has : (i : ℕ) → i < run.n → find_in runs (run.page + i) ≡ Some (entry_at run i)

-- the one that does, or that there is none
abbrev pub HasRun : List PageRun → ℕ → Option PageRun → Type 0
HasRun runs page None = (q : ℕ) → page ≤ q → find_in runs q ≡ None
HasRun runs page (Some run) = IsRunBehind runs page run

-- other runs of the same pages
pub record HaveSamePages (old new : List PageRun) : Type 0 where
  pub found : (page : ℕ) → find_in new page ≡ find_in old page
  pub rise : ComeInOrder 0 new
  pub count : total new ≡ total old

-- a run begins at a page, among runs of the same pages
pub record HasBegun (old : List PageRun) (page at : ℕ) (new : List PageRun) : Type 0 where
  pub same : HaveSamePages old new
  pub there : at < length new
  pub begins : (run_at new at).page ≡ page

-- a page that is there was given another entry
pub record HasSet (old : List PageRun) (page : ℕ) (entry : PageEntry) (new : List PageRun) : Type 0 where
  pub pages : run_pages new ≡ insert (run_pages old) page entry
  pub rise : ComeInOrder 0 new
  pub count : total new ≡ total old

-- n pages from one on, which weren't there, were given an entry
pub record HasFilled (old : List PageRun) (from n : ℕ) (entry : PageEntry) (new : List PageRun) : Type 0 where
  pub pages : IsMapped (run_pages old) from n entry (run_pages new)
  pub rise : ComeInOrder 0 new
  pub count : total new ≡ total old + n

-- the n pages from one on were taken away
pub record HaveLost (old : List PageRun) (page n : ℕ) (new : List PageRun) : Type 0 where
  pub found : (q : ℕ) → find_in new q ≡ (if is_within page n q then None else find_in old q)
  pub rise : ComeInOrder 0 new
  pub count : total new + n ≡ total old

-- the first pages of a run, the others, and the run of two that lie one after the other
abbrev pub run_head : PageRun → ℕ → PageRun
run_head run n = record { page = run.page; n = n; entry = run.entry; rising = run.rising }

abbrev pub run_tail : PageRun → ℕ → PageRun
run_tail run n = record { page = run.page + n; n = run.n - n; entry = entry_at run n; rising = run.rising }

-- a run is two that lie one after the other
pub record IsOneRun (a b run : PageRun) : Type 0 where
  pub meet : b.page ≡ a.page + a.n
  pub page : run.page ≡ a.page
  pub count : run.n ≡ a.n + b.n
  pub first : (i : ℕ) → i < a.n → entry_at run i ≡ entry_at a i
  pub second : (i : ℕ) → i < b.n → entry_at run (a.n + i) ≡ entry_at b i

-- a run begins where another ends, with the same permissions, and the frame that comes next
pub record Meets (a b : PageRun) (rising : Bool) : Type 0 where
  pub page : b.page ≡ a.page + a.n
  pub perms : b.entry.perms ≡ a.entry.perms
  pub frame : b.entry.frame ≡ (if rising then a.entry.frame + a.n else a.entry.frame)

-- a page that is a run of its own
abbrev pub single : ℕ → PageEntry → PageRun
single page entry = record { page = page; n = 1; entry = entry; rising = false }

-- n pages with one entry
abbrev pub plain_run : ℕ → ℕ → PageEntry → PageRun
plain_run from n entry = record { page = from; n = n; entry = entry; rising = false }

-- a node stands at the end of a path: on a level, for the digits above it
pub record IsNodeOfPath (links : Links) (node : ℕ) : Type 0 where
  pub level : ℕ
  pub above : ℕ
  pub deep : level < 4
  pub low : above < size level
  pub at : node_at links level above ≡ Some node

-- and it is no leaf
pub record IsUpper (links : Links) (node : ℕ) : Type 0 where
  pub level : ℕ
  pub above : ℕ
  pub deep : level < 3
  pub low : above < size level
  pub at : node_at links level above ≡ Some node

-- What the links of a table keep: the slots are those of nodes that there are, and the nodes that they lead to too; no two lead to one.
pub record IsTree (links : Links) : Type 0 where
  pub spots : (node : ℕ) → node < len links + 1 → IsNodeOfPath links node
  pub low : (k c : ℕ) → get links k ≡ Some c → (k < TABLE_SLOTS * (len links + 1)) × (c < len links + 1)
  pub once : (j k c : ℕ) → get links j ≡ Some c → get links k ≡ Some c → j ≡ k

-- no slot from one on has an entry
abbrev pub EndBy : (ℕ → Option PageEntry) → ℕ → Type 0
EndBy has end = (s : ℕ) → end ≤ s → has s ≡ None

-- what there is of a table: its links, its runs of slots, how many pages it has, and the room for runs
pub record AreHeld (links : Links) (runs : List PageRun) (count room : ℕ) : Type 0 where
  pub tree : IsTree links
  pub kept : AreTableRuns runs count room
  pub ends : EndBy (get (run_pages runs)) (TABLE_SLOTS * (len links + 1))
  pub counted : len (pages_by links (run_pages runs)) ≡ count

-- which pages are overlaid: pages that are there; and there is room for the chunks of all that are
pub record AreOverlaid (pages : Pages) (set : Members) : Type 0 where
  pub are : AreChunks set.chunks
  pub there : (page : ℕ) → holds set.chunks page ≡ true → IsSome (get pages page)
  pub roomy : LieInFew pages set.room

-- and a page below which there is none
pub record IsPageTable (links : Links) (runs : List PageRun) (count room front : ℕ) (set : Members) : Type 0 where
  pub held : AreHeld links runs count room
  pub none : NoneFrom (pages_by links (run_pages runs)) 0 front
  pub overlaid : AreOverlaid (pages_by links (run_pages runs)) set

-- links to more nodes, which have no entry, lead to what they led to before
pub record HaveGrown (old new : Links) : Type 0 where
  pub tree : IsTree new
  pub more : len old ≤ len new
  pub kept : (k c : ℕ) → get old k ≡ Some c → get new k ≡ Some c
  pub same : (has : ℕ → Option PageEntry) → EndBy has (TABLE_SLOTS * (len old + 1)) → (page : ℕ)
      → look has (page_slot new page) ≡ look has (page_slot old page)

-- a node has a child, which was made where there was none
pub record HasChild (old : Links) (node digit : ℕ) (new : Links) (child : ℕ) : Type 0 where
  pub grown : HaveGrown old new
  pub there : get new (slot node digit) ≡ Some child
  pub low : child < len new + 1

-- a path leads to a leaf
pub record HasLeaf (old : Links) (above : ℕ) (new : Links) : Type 0 where
  pub grown : HaveGrown old new
  pub there : IsSome (node_at new 3 above)

pub record HaveLeaves (old : Links) (from to : ℕ) (new : Links) : Type 0 where
  pub grown : HaveGrown old new
  pub there : (above : ℕ) → from ≤ above → above < to → IsSome (node_at new 3 above)

-- the n pages from one on have paths
abbrev pub HavePaths : Links → ℕ → ℕ → Type 0
HavePaths links from n = (page : ℕ) → is_within from n page ≡ true → page_slot links page ≡ None → ⊥

-- what each page has after a change of a run of them
abbrev pub HasChanged : Option PageEntry → Pages → ℕ → ℕ → Pages → Type 0
HasChanged x old from n new = (q : ℕ) → get new q ≡ (if is_within from n q then x else get old q)

-- n pages that weren't there have the entry, by their slots
pub record HaveFilled (links : Links) (old : List PageRun) (from n : ℕ) (entry : PageEntry) (new : List PageRun) : Type 0 where
  pub pages : HasChanged (Some entry) (pages_by links (run_pages old)) from n (pages_by links (run_pages new))
  pub rise : ComeInOrder 0 new
  pub ends : EndBy (get (run_pages new)) (TABLE_SLOTS * (len links + 1))
  pub count : total new ≡ total old + n

-- n pages were taken away
pub record HaveCleared (links : Links) (old : List PageRun) (from n : ℕ) (new : List PageRun) : Type 0 where
  pub pages : HasChanged None (pages_by links (run_pages old)) from n (pages_by links (run_pages new))
  pub rise : ComeInOrder 0 new
  pub ends : EndBy (get (run_pages new)) (TABLE_SLOTS * (len links + 1))
  pub count : total new + n ≡ total old

-- what is seen of a table
abbrev pub seen_table : Links → List PageRun → Chunks → Table
seen_table links runs overlaid = record {
  pages = pages_by links (run_pages runs);
  links = links;
  leaves = run_pages runs;
  overlaid = overlaid;
}

-- a node has no child from a digit on, below another
abbrev pub NoChild : Links → ℕ → ℕ → ℕ → Type 0
NoChild links node from to = (e : ℕ) → from ≤ e → e < to → get links (slot node e) ≡ None

-- the first child of a node from a digit on
pub record IsChildFrom (links : Links) (node digit : ℕ) (found : ℕ × ℕ) : Type 0 where
  pub from : digit ≤ found.0
  pub low : found.0 < TABLE_SLOTS
  pub none : NoChild links node digit found.0
  pub has : get links (slot node found.0) ≡ Some found.1

abbrev pub IsNextChild : Links → ℕ → ℕ → Option (ℕ × ℕ) → Type 0
IsNextChild links node digit None = NoChild links node digit TABLE_SLOTS
IsNextChild links node digit (Some found) = IsChildFrom links node digit found

-- the first slots not below one: as many as lie in one run, or that there is none
pub record IsRest (leaves : Pages) (at : ℕ) (run : PageRun) : Type 0 where
  pub from : at ≤ run.page
  pub some : 0 < run.n
  pub none : (q : ℕ) → at ≤ q → q < run.page → get leaves q ≡ None
  pub has : (i : ℕ) → i < run.n → get leaves (run.page + i) ≡ Some (entry_at run i)
  pub low : run.page + run.n ≤ 2 ^ 41
  pub fits : run.rising ≡ true → run.entry.frame + run.n ≤ 2 ^ 32

abbrev pub HasRest : Pages → ℕ → Option PageRun → Type 0
HasRest leaves at None = (q : ℕ) → at ≤ q → get leaves q ≡ None
HasRest leaves at (Some run) = IsRest leaves at run

-- the pages of slots of a leaf
abbrev pub moved_run : PageRun → ℕ → ℕ → PageRun
moved_run run base begin = record {
  page = begin + (run.page - base);
  n = if nat_lt run.n (base + TABLE_SLOTS - run.page) then run.n else base + TABLE_SLOTS - run.page;
  entry = run.entry;
  rising = run.rising;
}
