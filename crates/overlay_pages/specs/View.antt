use Rattle.std.specs.Prelude.{◌≡◌, ℕ, ◌+◌, ◌*◌, ◌^◌, ◌<◌, ◌≤◌, ◌⊎◌, true, false, cond, List, Option, Some, None, IsSome, length}
use Rattle.std.specs.Option.{option_map_or}
use Rattle.sizes.specs.declared.TheConstants.{FRAME_UNITS, LAST_SPACE, PAGE_END, PAGE_LINES}
use Rattle.line_store.specs.Lines.{line_of}
use Rattle.unit_map.specs.Pieces.{AreSettled, Piece, free_units, units_in}
use Rattle.overlay_bits.specs.Lines.{has_line}
use Rattle.overlay_address.specs.Names.{overlay_page}
use Rattle.overlay_mapping_table.specs.declared.entry.Entry.{Entry}
use Rattle.ledger.specs.Units.{class, units}
use Rattle.segment_store.specs.declared.segment.Segment.{Segment}
use Rattle.segment_store.specs.Kept.{IsStore}
use Rattle.segment_store.specs.Store.{Store, IsFrame, frame_line, frame_place, place_of, scratch_place, segment_at}
use Rattle.space_maps.specs.Spaces.{holds_space, page_in}
use Rattle.space_maps.specs.Mapped.{mapped}
use Rattle.space_ledger.specs.View.{LedgerView, PageView, frame_at, ledger_of, lines_of, overlay_at}
use Rattle.overlay_pages.specs.Lines.{page_lines, zero_line}
use Rattle.overlay_pages.specs.State.{PageState, State}

-- What a memory of pages with overlays is seen as.

-- the lines of the region with the blocks and the segments of its units; and the tables of all spaces, with the frame of each
-- page, and the lines and the block of each overlay
pub record MemoryView : Type 0 where
  pub store : Store
  pub table : LedgerView

abbrev pub view_of : Store → LedgerView → MemoryView
view_of store table = record { store = store; table = table }

-- Where a line of a page stands in the region: in the segment of its overlay where it is there, else in its frame.
abbrev pub place_in_page : Store → PageView → ℕ → ℕ
place_in_page store x line = by_overlay x.overlay
  where
    by_overlay : Option Entry → ℕ
    by_overlay None = frame_place x.entry.frame line
    by_overlay (Some overlay) = cond (has_line overlay.bits line) (place_of store overlay.block line) (frame_place x.entry.frame line)

abbrev pub place_at : MemoryView → ℕ → ℕ → ℕ → ℕ
place_at view space page line = option_map_or (λ x. place_in_page view.store x line) (page_in view.table space page) 0

-- two lines outside the overlays, on one frame and with one number
pub record ShareFrameLine (view : MemoryView) (q r i s p j : ℕ) : Type 0 where
  pub number : i ≡ j
  pub frame : frame_at view.table q r ≡ frame_at view.table s p
  pub one : has_line (lines_of (overlay_at view.table q r)) i ≡ false
  pub two : has_line (lines_of (overlay_at view.table s p)) j ≡ false

-- The place of a line is that of no other line but those, and lies before scratch.
pub record HasOwnPlace (view : MemoryView) (space page line : ℕ) : Type 0 where
  pub only : (q r i : ℕ) → IsSome (page_in view.table q r) → i < PAGE_LINES → place_at view q r i ≡ place_at view space page line
      → ((q ≡ space) × (r ≡ page) × (i ≡ line)) ⊎ ShareFrameLine view q r i space page line
  pub shared : (q r i : ℕ) → IsSome (page_in view.table q r) → ShareFrameLine view q r i space page line → place_at view q r i ≡ place_at view space page line
  pub before_scratch : place_at view space page line < scratch_place view.store

-- what it is
abbrev pub line_seen : Store → PageView → ℕ → List ℕ
line_seen store x line = line_of store.lines (place_in_page store x line)

-- The state: each line of a page is the region's line at its place.
unfoldable pub page_state : Store → PageView → PageState
page_state store x = record {
  entry = x.entry;
  own = lines_of x.overlay;
  lines = page_lines (line_seen store x);
  base = page_lines (frame_line store x.entry.frame);
}

unfoldable pub state_of : MemoryView → State
state_of view = mapped (λ _ _ x. page_state view.store x) view.table

-- What is true of every memory.

-- the segment of an overlay
abbrev pub segment_of : ℕ → ℕ → Entry → Segment
segment_of space page overlay = record { owner = overlay_page space page; order = overlay.block.order; bits = overlay.bits }

-- a segment is that of a page's overlay
pub record IsOwned (table : LedgerView) (unit : ℕ) (segment : Segment) : Type 0 where
  pub space : ℕ
  pub page : ℕ
  pub x : PageView
  pub overlay : Entry
  pub there : page_in table space page ≡ Some x
  pub is : x.overlay ≡ Some overlay
  pub unit_is : overlay.block.unit ≡ unit
  pub owner : segment.owner ≡ overlay_page space page

-- a page has a number in range, a frame that is taken and, where it is overlaid, a segment of its own, as large as its lines need
pub record IsHeld (store : Store) (space page : ℕ) (x : PageView) : Type 0 where
  pub number : space ≤ LAST_SPACE
  pub low : page < PAGE_END
  pub frame : IsFrame store x.entry.frame
  pub segment : (overlay : Entry) → x.overlay ≡ Some overlay → segment_at store overlay.block.unit ≡ Some (segment_of space page overlay)
  pub lined : (overlay : Entry) → x.overlay ≡ Some overlay → 0 < length overlay.bits
  pub size : (overlay : Entry) → x.overlay ≡ Some overlay → 2 ^ overlay.block.order ≡ class (length overlay.bits)

-- Spaces have numbers in range, each page is held, each segment is a page's, the zero frame is zero, and what isn't free are the
-- units of the ledger. Beside that something is true of the blocks:
pub record IsJoinedWith (P : List Piece → Type 0) (view : MemoryView) : Type 0 where
  pub store : IsStore view.store
  pub blocks : P view.store.blocks
  pub frames : FRAME_UNITS * view.table.frames ≡ units_in view.store.blocks
  pub count : free_units view.store.blocks + units (ledger_of view.table) ≡ units_in view.store.blocks
  pub numbers : (space : ℕ) → holds_space view.table space ≡ true → space ≤ LAST_SPACE
  pub zero : IsFrame view.store view.table.zero_frame
  pub zeros : (line : ℕ) → line < PAGE_LINES → frame_line view.store view.table.zero_frame line ≡ zero_line
  pub held : (space page : ℕ) (x : PageView) → page_in view.table space page ≡ Some x → IsHeld view.store space page x
  pub owned : (unit : ℕ) (segment : Segment) → segment_at view.store unit ≡ Some segment → IsOwned view.table unit segment

-- and no two free blocks below a frame are equal in size
abbrev pub IsJoined : MemoryView → Type 0
IsJoined = IsJoinedWith AreSettled
