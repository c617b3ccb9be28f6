use Rattle.std.specs.Prelude.{◌≡◌, ℕ, ◌+◌, ◌≤◌, ◌==◌, ◌||◌, cond, true, false, List, [], ◌∷◌, ◌++◌, length, map, Option, Some, None, Result, Ok, Err, is_some}
use Rattle.std.specs.Option.{option_map}
use Rattle.std.specs.Ordering.{nat_cmp}
use Rattle.std.specs.FinMap.{empty, from_entries, get}
use Rattle.std.specs.FinMap.Entries.{find}
use Rattle.std.specs.declared.alloc.AllocError.{AllocError}
use Rattle.sizes.specs.declared.TheConstants.{MOST_SPACE_PAGES}
use Rattle.ovl_io.specs.Memory.{Memory}
use Rattle.ovl_io.specs.declared.perms.Perms.{Perms}
use Rattle.ledger.specs.Alike.{AreAlike}
use Rattle.ledger.specs.Events.{Event, Import, ledger_after}
use Rattle.page_table.specs.Table.{Pages}
use Rattle.page_table.specs.declared.entry.PageEntry.{PageEntry}
use Rattle.space_maps.specs.Spaces.{cut_space, holds_space, page_in, space_in}
use Rattle.overlay_pages.specs.Changes.{limit_of, units_of}
use Rattle.overlay_pages.specs.Calls.{entries_in}
use Rattle.overlay_pages.specs.State.{State, books, memory_of}
use Rattle.overlay_memory.specs.View.{TranslatedView, state_of}
use Rattle.overlay_memory.specs.Room.{FitsAfter, IsFullAt, event_units}
use Rattle.overlay_memory.specs.declared.error.SpaceError.{SpaceError}
use Rattle.overlay_memory.specs.declared.error.SpaceError.TheVariants.{Full, Memory as NoMemory}
use Rattle.delta_image.specs.declared.delta.Delta.{Delta}
use Rattle.delta_image.specs.declared.delta.DeltaPage.{DeltaPage}
use Rattle.delta_image.specs.Applied.{applied, applied_page}
use Rattle.delta_image.specs.Fine.{Ascend, IsPlain}
use Rattle.delta_image.specs.Line.{numbers_of}
use Rattle.delta_spaces.specs.Imported.{Row, classes, imported_at}
use Rattle.delta_spaces.specs.Made.{IsMade}

-- A space that is made of a base and a delta.

-- the pages of a delta as the ledger sees them, each with the numbers of its lines
abbrev pub row_of : DeltaPage → Row
row_of page = (page.page, numbers_of page.lines)

abbrev pub rows_of : List DeltaPage → List Row
rows_of pages = map row_of pages

-- what an import is to the ledger
abbrev pub import_of : ℕ → ℕ → Delta → Event
import_of base to delta = Import base to (rows_of delta.pages)

-- The space `to` is there besides, and nothing else changed.
pub record IsBeside (old new : State) (to : ℕ) : Type 0 where
  pub others : (q : ℕ) → (q ≡ to → ⊥) → space_in new q ≡ space_in old q
  pub spaces : (q : ℕ) → holds_space new q ≡ (q == to || holds_space old q)
  pub frames : new.frames ≡ old.frames
  pub zero_frame : new.zero_frame ≡ old.zero_frame

-- It has the memory that the delta makes of the base's, and the ledger is that after the import, up to the numbers of origins; no page of it
-- awaits, and it has no mark.
pub record HasBuilt (old new : State) (base to : ℕ) (delta : Delta) : Type 0 where
  pub memory : memory_of new to ≡ applied delta (memory_of old base)
  pub ledger : AreAlike (books new) (ledger_after (import_of base to delta) (books old))
  pub awaiting : (space_in new to).awaiting ≡ empty
  pub mark : (space_in new to).speculating ≡ false
  pub beside : IsBeside old new to

-- How the call comes out: the units after it are within the limit or exceed it; after want of memory everything is as before, but that segments may
-- have moved.
abbrev pub Builds : TranslatedView → TranslatedView → ℕ → ℕ → Delta → Result (Unit {0}) SpaceError → Type 0
Builds old new base to delta (Ok done) = FitsAfter (import_of base to delta) (state_of old) × HasBuilt (state_of old) (state_of new) base to delta
Builds old new base to delta (Err (Full needed limit)) = IsFullAt old new (event_units (import_of base to delta) (state_of old)) needed limit
Builds old new base to delta (Err NoMemory) = FitsAfter (import_of base to delta) (state_of old) × (state_of new ≡ state_of old)

-- On the way.

-- a page of which no line is given
abbrev pub bare_page : DeltaPage → DeltaPage
bare_page page = record { page = page.page; perms = page.perms; lines = [] }

abbrev pub bare_pages : List DeltaPage → List DeltaPage
bare_pages pages = map bare_page pages

-- those that the base has, so
abbrev pub kept_pages : State → ℕ → List DeltaPage → List DeltaPage
kept_pages state base [] = []
kept_pages state base (page ∷ pages) = cond (is_some (page_in state base page.page)) (bare_page page ∷ kept_pages state base pages) (kept_pages state base pages)

-- the memory that pages make of a base
abbrev pub applied_pages : List DeltaPage → Memory → Memory
applied_pages pages base = from_entries (map (λ page. (page.page, applied_page base page)) pages)

-- the units after it, by the pages
abbrev pub built_units : State → ℕ → List DeltaPage → ℕ
built_units state base pages = units_of state + classes (books state) base (rows_of pages)

-- a page awaits with the frame that it has in the base, and with the delta's permissions
abbrev pub awaits_with : Option PageEntry → Option Perms → Option PageEntry
awaits_with entry None = None
awaits_with entry (Some perms) = option_map (λ (e : PageEntry). record { perms = perms; frame = e.frame }) entry

abbrev pub perms_at : List DeltaPage → ℕ → Option Perms
perms_at pages page = find nat_cmp page (map (λ page. (page.page, page.perms)) pages)

abbrev pub awaits_at : Pages → List DeltaPage → ℕ → Option PageEntry
awaits_at entries pages page = awaits_with (get entries page) (perms_at pages page)

-- pages that are there, of which no line is given yet, so that the ledger has no new origin
pub record HasBegun (old new : State) (base to : ℕ) (pages : List DeltaPage) : Type 0 where
  pub memory : memory_of new to ≡ applied_pages pages (memory_of old base)
  pub made : IsMade (books old) (books new) to (imported_at (books old) base (rows_of pages)) (λ _. false)
  pub mark : (space_in new to).speculating ≡ false
  pub beside : IsBeside old new to

-- a space without a page, of which the base's pages that the delta has await, can have the delta's
pub record CanBegin (state : State) (base to : ℕ) (pages : List DeltaPage) : Type 0 where
  pub differ : base ≡ to → ⊥
  pub there : holds_space state base ≡ true
  pub unmarked : (space_in state base).speculating ≡ false
  pub space : holds_space state to ≡ true
  pub empty_is : (space_in state to).pages ≡ empty
  pub mark : (space_in state to).speculating ≡ false
  pub awaits : (page : ℕ) → get (space_in state to).awaiting page ≡ awaits_at (entries_in state base) pages page
  pub ascend : Ascend IsPlain 0 pages
  pub fits : built_units state base pages ≤ limit_of state

-- the pages that the base has are there, those that it hasn't can be mapped
pub record CanMap (state : State) (base to : ℕ) (pages : List DeltaPage) : Type 0 where
  pub before : State
  pub differ : base ≡ to → ⊥
  pub bare : (q : ℕ) → page_in before to q ≡ None
  pub begun : HasBegun before state base to (kept_pages before base pages)
  pub awaiting : (space_in state to).awaiting ≡ empty
  pub ascend : Ascend IsPlain 0 pages
  pub few : length pages ≤ MOST_SPACE_PAGES

-- some of a delta's pages with lines given
pub record HasPut (old new : State) (base to : ℕ) (pages : List DeltaPage) : Type 0 where
  pub memory : memory_of new to ≡ applied_pages pages (memory_of old base)
  pub ledger : AreAlike (books new) (ledger_after (Import base to (rows_of pages)) (books old))
  pub awaiting : (space_in new to).awaiting ≡ empty
  pub mark : (space_in new to).speculating ≡ false
  pub beside : IsBeside old new to

-- a page among those of a delta can have its lines
pub record CanPut (state : State) (to : ℕ) (page : DeltaPage) : Type 0 where
  pub before : State
  pub base : ℕ
  pub front : List DeltaPage
  pub back : List DeltaPage
  pub differ : base ≡ to → ⊥
  pub bare : (q : ℕ) → page_in before to q ≡ None
  pub put : HasPut before state base to (front ++ bare_page page ∷ back)
  pub ascend : Ascend IsPlain 0 (front ++ page ∷ back)
  pub fits : built_units before base (front ++ page ∷ back) ≤ limit_of before

-- all pages can have their lines
pub record CanFill (state : State) (to : ℕ) (pages : List DeltaPage) : Type 0 where
  pub before : State
  pub base : ℕ
  pub differ : base ≡ to → ⊥
  pub bare : (q : ℕ) → page_in before to q ≡ None
  pub put : HasPut before state base to (bare_pages pages)
  pub ascend : Ascend IsPlain 0 pages
  pub fits : built_units before base pages ≤ limit_of before

-- how beginning a space comes out, and how filling it does
abbrev pub BeginsSpace : State → State → ℕ → ℕ → List DeltaPage → Result (Unit {0}) AllocError → Type 0
BeginsSpace old new base to pages (Ok done) = HasBegun old new base to (kept_pages old base pages) × ((space_in new to).awaiting ≡ empty)
BeginsSpace old new base to pages (Err none) = new ≡ old

abbrev pub FillsNew : State → State → ℕ → ℕ → List DeltaPage → Result (Unit {0}) AllocError → Type 0
FillsNew old new base to pages (Ok done) = HasPut old new base to pages
FillsNew old new base to pages (Err none) = new ≡ cut_space old to
