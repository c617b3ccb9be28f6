use Rattle.std.specs.Prelude.{ℕ, List}
use Rattle.number_maps.specs.Views.{viewed}
use Rattle.ovl_io.specs.Memory.{Memory, Page}
use Rattle.page_table.specs.declared.entry.PageEntry.{PageEntry}
use Rattle.ledger.specs.Ledger.{Holding, Ledger}
use Rattle.space_maps.specs.Spaces.{SpaceOf, Spaces, space_in}
use Rattle.space_maps.specs.Books.{books_of}
use Rattle.space_ledger.specs.View.{origin_of}
use Rattle.overlay_pages.specs.Lines.{bytes_in_lines}

-- What all spaces have, page by page, without where any line of it stands.

-- a page: its permissions and frame, its own lines ascending, its lines as a process sees them, and those of its frame
pub record PageState : Type 0 where
  pub entry : PageEntry
  pub own : List ℕ
  pub lines : List (List ℕ)
  pub base : List (List ℕ)

-- spaces of such pages
abbrev pub SpaceState : Type 0
SpaceState = SpaceOf PageState

abbrev pub State : Type 0
State = Spaces PageState

-- What a space is to those above: a memory, which processes see; another one, of its frames alone; and its pages in the ledger.

abbrev pub seen_page : PageState → Page
seen_page x = record { perms = x.entry.perms.0; bytes = bytes_in_lines x.lines }

abbrev pub base_page : PageState → Page
base_page x = record { perms = x.entry.perms.0; bytes = bytes_in_lines x.base }

-- the memory of a space
unfoldable pub memory_of : State → ℕ → Memory
memory_of state space = viewed (λ _ x. seen_page x) (space_in state space).pages

-- its base: what it would be without its overlays
unfoldable pub base_of : State → ℕ → Memory
base_of state space = viewed (λ _ x. base_page x) (space_in state space).pages

abbrev pub held_page : ℕ → PageState → Holding
held_page zero_frame x = record { origin = origin_of zero_frame x.entry.frame; own = x.own }

-- the ledger of all spaces
abbrev pub books : State → Ledger
books state = books_of held_page state
