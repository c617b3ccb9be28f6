use Rattle.std.specs.Prelude.{ℕ, zero, suc, ◌+◌, ◌==◌, if◌then◌else◌, List, [], Option, Some, None}
use Rattle.std.specs.Option.{option_and_then, option_map, option_map_or}
use Rattle.std.specs.FinMap.{get}
use Rattle.page_table.specs.Run.{entry_at}
use Rattle.page_table.specs.declared.entry.PageEntry.{PageEntry}
use Rattle.page_table.specs.declared.run.PageRun.{PageRun}
use Rattle.overlay_mapping_table.specs.declared.entry.Entry.{Entry}
use Rattle.unit_map.specs.declared.block.Block.{Block}
use Rattle.ledger.specs.Ledger.{Holding, Ledger}
use Rattle.space_maps.specs.Spaces.{SpaceOf, Spaces, page_in, put_pages, put_shared, space_in, altered_page}
use Rattle.space_maps.specs.Books.{books_of}

-- What a space ledger is seen as.

-- a page: its permissions and frame, and its lines and block, where it has own lines
pub record PageView : Type 0 where
  pub entry : PageEntry
  pub overlay : Option Entry

-- spaces of such pages
abbrev pub SpaceView : Type 0
SpaceView = SpaceOf PageView

abbrev pub LedgerView : Type 0
LedgerView = Spaces PageView

-- The ledger of a view.

-- the zero frame is origin 0, every other frame is its number and 1
abbrev pub origin_of : ℕ → ℕ → ℕ
origin_of zero_frame frame = if frame == zero_frame then 0 else frame + 1

abbrev pub lines_of : Option Entry → List ℕ
lines_of None = []
lines_of (Some overlay) = overlay.bits

abbrev pub holding_of : ℕ → PageView → Holding
holding_of zero_frame page = record { origin = origin_of zero_frame page.entry.frame; own = lines_of page.overlay }

abbrev pub ledger_of : LedgerView → Ledger
ledger_of view = books_of holding_of view

-- What the calls do to a view.

-- a page with another entry, with another frame, and with another overlay or none
unfoldable pub with_entry_at : LedgerView → ℕ → ℕ → PageEntry → LedgerView
with_entry_at view space page entry = altered_page (λ x. record { entry = entry; overlay = x.overlay }) view space page

unfoldable pub with_frame : LedgerView → ℕ → ℕ → ℕ → LedgerView
with_frame view space page frame =
    altered_page (λ x. record { entry = record { perms = x.entry.perms; frame = frame }; overlay = x.overlay }) view space page

unfoldable pub with_overlay : LedgerView → ℕ → ℕ → Option Entry → LedgerView
with_overlay view space page overlay = altered_page (λ x. record { entry = x.entry; overlay = overlay }) view space page

-- a page with another block
unfoldable pub with_block : LedgerView → ℕ → ℕ → Block → LedgerView
with_block view space page block =
    altered_page (λ x. record { entry = x.entry; overlay = option_map (λ (e : Entry). record { bits = e.bits; block = block }) x.overlay }) view space page

-- pages on the zero frame, without own lines
unfoldable pub with_zero_pages : LedgerView → ℕ → ℕ → ℕ → PageEntry → LedgerView
with_zero_pages view space from count entry = put_pages view space from count (record { entry = entry; overlay = None })

-- the first pages of a run become the space's one after the other, without overlays
unfoldable pub with_run_shared : LedgerView → ℕ → PageRun → ℕ → LedgerView
with_run_shared view space run zero = view
with_run_shared view space run (suc k) = put_shared (with_run_shared view space run k) space (run.page + k) (record { entry = entry_at run k; overlay = None })

-- the overlay of a page, if it has one; its frame, if it is there; and the frame of one that awaits
abbrev pub overlay_at : LedgerView → ℕ → ℕ → Option Entry
overlay_at view space page = option_and_then (λ (x : PageView). x.overlay) (page_in view space page)

abbrev pub frame_at : LedgerView → ℕ → ℕ → Option ℕ
frame_at view space page = option_map (λ (x : PageView). x.entry.frame) (page_in view space page)

abbrev pub frame_awaiting : LedgerView → ℕ → ℕ → Option ℕ
frame_awaiting view space page = option_map (λ (e : PageEntry). e.frame) (get (space_in view space).awaiting page)

-- a page that awaits becomes one of the space's, with the own lines that it has in another space, in a block of its own
unfoldable pub with_page_shared : LedgerView → ℕ → ℕ → ℕ → Option Block → LedgerView
with_page_shared view from to page block =
    option_map_or
    (λ (e : PageEntry). put_shared view to page (record {
      entry = e;
      overlay = option_map (λ (b : Block). record { bits = lines_of (overlay_at view from page); block = b }) block;
    }))
    (get (space_in view to).awaiting page) view
