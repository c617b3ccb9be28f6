use Rattle.std.specs.Prelude.{◌≡◌, ℕ, ◌+◌, ◌/◌, ◌%◌, ◌<◌, length, slice_index_or, false, true}
use Rattle.sizes.specs.declared.TheConstants.{LINE_BYTES, PAGE_BYTES, PAGE_LINES}
use Rattle.ovl_io.specs.Permissions.{permits, readable, writable}
use Rattle.overlay_memory.specs.Epochs.{Seen, bare_page, known_at, nothing_known, nothing_seen, place_of, with_front, with_page, with_read, with_write}
use Rattle.overlay_memory.specs.declared.epochs.KnownPage.{KnownPage}
use Rattle.overlay_memory.specs.declared.epochs.TheConstants.{NO_PLACE, SEEN_PAGES}
use Rattle.overlay_memory.specs.declared.fronts.Fronts.{Fronts}
use Rattle.overlay_pages.specs.Changes.{is_writable}
use Rattle.overlay_pages.specs.Spots.{IsFoundPage, IsFoundPageAt}
use Rattle.overlay_pages.specs.View.{MemoryView, place_at, state_of}
use Rattle.overlay_pages.specs.declared.spots.FoundPage.{FoundPage}
use Rattle.overlay_pages.specs.declared.spots.TheConstants.{NO_PAGE}
use Rattle.translation_cache.specs.Bare.{BareTranslations}
use Rattle.translation_cache.specs.CountedLaws.{IsFront}
use Rattle.translation_cache.specs.declared.TheConstants.{SETS}
use Rattle.translation_cache.specs.declared.cached.Cached.{Cached}

-- What is known of pages that were found, and of the front of each list.

-- nothing
abbrev pub IsClear : Fronts → Type 0
IsClear fronts = fronts.seen ≡ nothing_seen

-- where a memory says so, nothing is known
abbrev pub TellsNone : Fronts → Type 0
TellsNone fronts = fronts.any ≡ false → IsClear fronts

-- a page was found, or none was, and is at the front of its list; or one that is known is
abbrev pub with_found : ℕ → ℕ → FoundPage → Fronts → Fronts
with_found space page found fronts = record { seen = with_front space page (with_page space page (bare_page found) fronts.seen); any = true }

abbrev pub with_brought : ℕ → ℕ → Fronts → Fronts
with_brought space page fronts = record { seen = with_front space page fronts.seen; any = fronts.any }

-- where a line of one that is known is read, or written, is known
abbrev pub with_read_at : ℕ → ℕ → ℕ → ℕ → Fronts → Fronts
with_read_at space page line at fronts = record { seen = with_page space page (with_read line at (known_at fronts.seen space page)) fronts.seen; any = fronts.any }

abbrev pub with_write_at : ℕ → ℕ → ℕ → ℕ → Fronts → Fronts
with_write_at space page line at fronts = record { seen = with_page space page (with_write line at (known_at fronts.seen space page)) fronts.seen; any = fronts.any }

-- what was found of a page, as its entry holds it
abbrev pub held_of : FoundPage → Cached
held_of found = record { perms = found.perms; frame = found.frame; bits = found.own }

-- A line of a page that was found stands at this place of the region, and the page may be used so.
pub record IsUsePlace (view : MemoryView) (found : FoundPage) (need line at : ℕ) : Type 0 where
  pub may : permits found.perms.0 need ≡ true
  pub low : line < PAGE_LINES
  pub at_is : place_at view found.space found.page line ≡ at

-- And it can be written there, whatever becomes of other pages.
pub record IsWritePlace (view : MemoryView) (found : FoundPage) (line at : ℕ) : Type 0 where
  pub is : IsUsePlace view found writable line at
  pub stands : (v : MemoryView) → IsFoundPage v.table found → is_writable (state_of v) found.space found.page line ≡ true

-- What is known of where its lines stand is true.
pub record ArePlaces (view : MemoryView) (known : KnownPage) : Type 0 where
  pub count_reads : length known.reads ≡ PAGE_LINES
  pub count_writes : length known.writes ≡ PAGE_LINES
  pub reads : (line at : ℕ) → slice_index_or known.reads line NO_PLACE ≡ at → at < NO_PLACE → IsUsePlace view known.found readable line at
  pub writes : (line at : ℕ) → slice_index_or known.writes line NO_PLACE ≡ at → at < NO_PLACE → IsWritePlace view known.found line at

-- A page that is known is that of its place and as the tables have it, and its lines stand where they are known to.
pub record IsKnown (view : MemoryView) (place : ℕ) (known : KnownPage) : Type 0 where
  pub place_is : place_of known.found.space known.found.page ≡ place
  pub is : IsFoundPage view.table known.found
  pub places : ArePlaces view known

-- What has the number of no page says nothing.
pub record AreSeen (view : MemoryView) (seen : Seen) : Type 0 where
  pub count : length seen.pages ≡ SEEN_PAGES + 1
  pub count_heads : length seen.heads ≡ SETS
  pub pages : (place : ℕ) (known : KnownPage) → slice_index_or seen.pages place nothing_known ≡ known → known.found.page < NO_PAGE → IsKnown view place known

-- A page at whose list's front its place is known to be is there.
pub record AreFronts (view : MemoryView) (t : BareTranslations) (fronts : Fronts) : Type 0 where
  pub seen : AreSeen view fronts.seen
  pub heads : (place : ℕ) (known : KnownPage) → slice_index_or fronts.seen.pages place nothing_known ≡ known → known.found.page < NO_PAGE
      → slice_index_or fronts.seen.heads (known.found.page % SETS) SEEN_PAGES ≡ place → IsFront known.found.space known.found.page t
  pub tells : TellsNone fronts

-- they are true of some lists
pub record AreSomeFronts (view : MemoryView) (fronts : Fronts) : Type 0 where
  pub t : BareTranslations
  pub are : AreFronts view t fronts

-- The line with the byte at an address stands at a place: its page may be used so, and is at the front of its list.
pub record IsFrontPlace (view : MemoryView) (fronts : Fronts) (space need address at : ℕ) : Type 0 where
  pub found : FoundPage
  pub is : IsFoundPageAt view space (address / PAGE_BYTES) found
  pub front : (t : BareTranslations) → AreFronts view t fronts → IsFront space (address / PAGE_BYTES) t
  pub place : IsUsePlace view found need (address / LINE_BYTES % PAGE_LINES) at

-- and the line can be written there
pub record IsFrontWritePlace (view : MemoryView) (fronts : Fronts) (space address at : ℕ) : Type 0 where
  pub is : IsFrontPlace view fronts space writable address at
  pub writable : is_writable (state_of view) space (address / PAGE_BYTES) (address / LINE_BYTES % PAGE_LINES) ≡ true
