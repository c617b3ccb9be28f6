use Rattle.std.specs.Prelude.{◌≡◌, ℕ, ◌*◌, ◌<◌, ◌≤◌, Option, Some, None, is_some, IsSome}
use Rattle.std.specs.Ordering.{nat_cmp}
use Rattle.std.specs.FinMap.{FinMap, get, insert, len, remove}
use Rattle.sizes.specs.declared.TheConstants.{FRAME_UNITS, LAST_SPACE, PAGE_END}
use Rattle.number_maps.specs.Views.{viewed}
use Rattle.page_set.specs.Sets.{holds}
use Rattle.page_table.specs.declared.entry.PageEntry.{PageEntry}
use Rattle.overlay_address.specs.Names.{IsName, overlay_page, page_of, space_of}
use Rattle.overlay_mapping_table.specs.declared.entry.Entry.{Entry}
use Rattle.space_maps.specs.Spaces.{Spaces, page_in}
use Rattle.space_maps.specs.Mapped.{mapped}
use Rattle.space_ledger.specs.Space.{OverlaidSpace, SpaceTable}
use Rattle.space_ledger.specs.View.{LedgerView, PageView}
use Rattle.space_ledger.specs.Calls.{IsLined}
use Rattle.space_ledger.specs.declared.tables.Tables.TheInside.{Inside}

-- What the spaces and the overlays stand for.

abbrev pub Overlays : Type 0
Overlays = FinMap nat_cmp Entry

-- an overlay put in the place of that of a name, or taken away
abbrev pub put_over : Overlays → ℕ → Option Entry → Overlays
put_over overlays name None = remove overlays name
put_over overlays name (Some overlay) = insert overlays name overlay

-- a page with the overlay that stands under its name
abbrev pub seen_page : Overlays → ℕ → ℕ → PageEntry → PageView
seen_page overlays space page entry = record { entry = entry; overlay = get overlays (overlay_page space page) }

-- the spaces with their entries, and with the overlays too
unfoldable pub tables_of : FinMap nat_cmp OverlaidSpace → FinMap nat_cmp SpaceTable
tables_of spaces = viewed (λ _ x. x.table) spaces

abbrev pub plain : Inside → Spaces PageEntry
plain t = record { spaces = tables_of t.spaces; frames = t.frames; zero_frame = t.zero }

unfoldable pub seen : Inside → LedgerView
seen t = mapped (seen_page t.overlays.entries) (plain t)

-- A page of a space is one of its overlaid pages exactly where an overlay stands under its name.
abbrev pub IsShown : Overlays → ℕ → OverlaidSpace → ℕ → Type 0
IsShown overlays space x page = (page < PAGE_END) × (holds x.overlaid page ≡ is_some (get overlays (overlay_page space page)))

-- what is true of all: numbers are in range, and each overlay has lines, and is that of a page
pub record AreTables (t : Inside) : Type 0 where
  pub numbers : (space : ℕ) → IsSome (get t.spaces space) → space ≤ LAST_SPACE
  pub pages : (space page : ℕ) (x : OverlaidSpace) → get t.spaces space ≡ Some x → IsSome (get x.table.pages page) → IsShown t.overlays.entries space x page
  pub placed : (name : ℕ) → IsSome (get t.overlays.entries name) → IsName name × IsSome (page_in (plain t) (space_of name) (page_of name))
  pub lined : (name : ℕ) (overlay : Entry) → get t.overlays.entries name ≡ Some overlay → IsLined overlay
  pub roomy : t.overlays.room ≡ FRAME_UNITS * t.frames
  pub most : len t.overlays.entries ≤ t.overlays.room
