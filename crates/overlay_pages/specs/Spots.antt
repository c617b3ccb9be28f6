use Rattle.std.specs.Prelude.{◌≡◌, ℕ, ◌<◌, ◌&&◌, not, true, false, [], Option, Some, None, IsSome}
use Rattle.std.specs.Option.{option_map}
use Rattle.sizes.specs.declared.TheConstants.{PAGE_LINES}
use Rattle.unit_map.specs.declared.block.Block.{Block}
use Rattle.overlay_bits.specs.Lines.{has_line, with_line}
use Rattle.overlay_mapping_table.specs.declared.entry.Entry.{Entry}
use Rattle.ledger.specs.Ledger.{is_alone}
use Rattle.space_maps.specs.Spaces.{page_in, space_in}
use Rattle.space_ledger.specs.View.{LedgerView, PageView, ledger_of, lines_of}
use Rattle.overlay_pages.specs.Changes.{is_writable}
use Rattle.overlay_pages.specs.View.{MemoryView, place_at, state_of}
use Rattle.overlay_pages.specs.declared.spots.FoundLine.{FoundLine}
use Rattle.overlay_pages.specs.declared.spots.FoundPage.{FoundPage}
use Rattle.overlay_pages.specs.declared.spots.Spot.{Spot}
use Rattle.overlay_pages.specs.declared.spots.TheConstants.{NO_PAGE}
use Rattle.overlay_pages.specs.declared.spots.Spot.TheVariants.{Segment, Frame}

-- Where a line of a page stands.

-- a page whose overlay has the line, in a segment at this block
pub record IsInSegment (table : LedgerView) (space page line : ℕ) (block : Block) : Type 0 where
  pub x : PageView
  pub overlay : Entry
  pub there : page_in table space page ≡ Some x
  pub is : x.overlay ≡ Some overlay
  pub block_is : overlay.block ≡ block
  pub has : has_line overlay.bits line ≡ true

-- a page on this frame whose overlay hasn't the line
pub record IsInFrame (table : LedgerView) (space page line frame : ℕ) : Type 0 where
  pub x : PageView
  pub there : page_in table space page ≡ Some x
  pub frame_is : x.entry.frame ≡ frame
  pub lacks : has_line (lines_of x.overlay) line ≡ false

abbrev pub IsSpot : LedgerView → ℕ → ℕ → ℕ → Spot → Type 0
IsSpot table space page line (Segment block) = IsInSegment table space page line block
IsSpot table space page line (Frame frame) = IsInFrame table space page line frame

-- A line as it was found: of a page that is there with these permissions, and it stands at this spot.
pub record IsFound (view : MemoryView) (found : FoundLine) : Type 0 where
  pub perms : option_map (λ x. x.entry.perms) (page_in (state_of view) found.space found.page) ≡ Some found.perms
  pub line : found.line < PAGE_LINES
  pub spot : IsSpot view.table found.space found.page found.line found.spot

-- this line was found
pub record IsFoundAt (view : MemoryView) (space page line : ℕ) (found : FoundLine) : Type 0 where
  pub space_is : found.space ≡ space
  pub page_is : found.page ≡ page
  pub line_is : found.line ≡ line
  pub is : IsFound view found

-- what looking for a line of a page comes to
abbrev pub FindsLine : MemoryView → ℕ → ℕ → ℕ → Option FoundLine → Type 0
FindsLine view space page line None = page_in (state_of view) space page ≡ None
FindsLine view space page line (Some found) = IsFoundAt view space page line found

-- A page as it was found: it is there with these permissions, on this frame, with these own lines in this block, and stores go
-- into its frame or they don't.
pub record IsFoundPage (table : LedgerView) (found : FoundPage) : Type 0 where
  pub x : PageView
  pub there : page_in table found.space found.page ≡ Some x
  pub perms : x.entry.perms ≡ found.perms
  pub frame : x.entry.frame ≡ found.frame
  pub own : lines_of x.overlay ≡ found.own
  pub block : (overlay : Entry) → x.overlay ≡ Some overlay → overlay.block ≡ found.block
  pub in_frame : found.in_frame ≡ (not (space_in table found.space).speculating && is_alone (ledger_of table) found.space found.page)

-- What stands for no page.
abbrev pub no_page : FoundPage
no_page = record { space = 0; page = NO_PAGE; perms = record { 0 = 0 }; frame = 0; own = []; block = record { unit = 0; order = 0 }; in_frame = false }

-- It is found so once a line of it was brought: that line is one of its own. Every other page is found as before.
pub record IsBroughtTo (old new : LedgerView) (page : FoundPage) (line : ℕ) (found : FoundPage) : Type 0 where
  pub space_is : found.space ≡ page.space
  pub page_is : found.page ≡ page.page
  pub own : found.own ≡ with_line page.own line
  pub is : IsFoundPage new found
  pub others : (other : FoundPage) → (other.space ≡ page.space → other.page ≡ page.page → ⊥) → IsFoundPage old other → IsFoundPage new other

-- this page was found
pub record IsFoundPageAt (view : MemoryView) (space page : ℕ) (found : FoundPage) : Type 0 where
  pub space_is : found.space ≡ space
  pub page_is : found.page ≡ page
  pub is : IsFoundPage view.table found

-- what looking for a page comes to
abbrev pub FindsPage : MemoryView → ℕ → ℕ → Option FoundPage → Type 0
FindsPage view space page None = page_in (state_of view) space page ≡ None
FindsPage view space page (Some found) = IsFoundPageAt view space page found

-- A line of a page that is there stands at a place of the region, and can be written there.
pub record IsPlace (view : MemoryView) (at : ℕ) : Type 0 where
  pub space : ℕ
  pub page : ℕ
  pub line : ℕ
  pub there : IsSome (page_in view.table space page)
  pub low : line < PAGE_LINES
  pub at_is : place_at view space page line ≡ at

pub record IsPutPlace (view : MemoryView) (at : ℕ) : Type 0 where
  pub is : IsPlace view at
  pub writable : is_writable (state_of view) is.space is.page is.line ≡ true

-- each line of each page that is there stays where it stands, or each one of every page but one does
abbrev pub KeepsPlaces : MemoryView → MemoryView → Type 0
KeepsPlaces old new = (q r i : ℕ) → IsSome (page_in old.table q r) → i < PAGE_LINES → place_at new q r i ≡ place_at old q r i

abbrev pub KeepsPlacesBut : ℕ → ℕ → MemoryView → MemoryView → Type 0
KeepsPlacesBut space page old new = (q r i : ℕ) → (q ≡ space → r ≡ page → ⊥) → IsSome (page_in old.table q r) → i < PAGE_LINES
    → place_at new q r i ≡ place_at old q r i
