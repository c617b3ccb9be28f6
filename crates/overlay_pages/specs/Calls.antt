use Rattle.std.specs.Prelude.{◌≡◌, ℕ, ◌+◌, ◌≤◌, ◌<◌, false, List, [], ◌∷◌, Option, Some, None, IsSome}
use Rattle.std.specs.Option.{option_map}
use Rattle.std.specs.FinMap.{empty, get}
use Rattle.number_maps.specs.Views.{viewed}
use Rattle.page_table.specs.declared.entry.PageEntry.{PageEntry}
use Rattle.page_table.specs.Table.{Pages}
use Rattle.ledger.specs.Changes.{has_own}
use Rattle.ledger.specs.Events.{Store, ledger_after}
use Rattle.ledger.specs.Ledger.{Holding, holding_at}
use Rattle.ledger.specs.Units.{units}
use Rattle.unit_map.specs.Pieces.{AreSettled}
use Rattle.store_compaction.specs.declared.moves.Move.{Move}
use Rattle.store_compaction.specs.Next.{Ascend}
use Rattle.overlay_mapping_table.specs.declared.entry.Entry.{Entry}
use Rattle.segment_store.specs.Store.{with_line_at}
use Rattle.segment_store.specs.Changes.{IsOutside, KeepsFrames, WholeSegmentsStay}
use Rattle.space_maps.specs.Spaces.{page_in, space_in}
pub use Rattle.space_maps.specs.Spaces.{AreMapped}
use Rattle.space_ledger.specs.Space.{IsLeast}
use Rattle.space_ledger.specs.View.{LedgerView, overlay_at}
use Rattle.overlay_pages.specs.State.{PageState, State, books}
use Rattle.overlay_pages.specs.Changes.{units_of, with_shared}
use Rattle.overlay_pages.specs.View.{MemoryView}

-- What the calls ask and answer.

-- a new one: no space, and a zero frame that is one of the frames
pub record IsEmptyState (frames : ℕ) (state : State) : Type 0 where
  pub spaces : state.spaces ≡ empty
  pub count : state.frames ≡ frames
  pub zero : state.zero_frame < frames

-- no two free blocks below a frame are equal in size
abbrev pub HasSettledBlocks : MemoryView → Type 0
HasSettledBlocks v = AreSettled v.store.blocks

-- frames that are taken and segments of 16 units stay where they are, with their lines
pub record KeepsWholeBlocks (old new : MemoryView) : Type 0 where
  pub frames : KeepsFrames old.store new.store
  pub segments : WholeSegmentsStay old.store new.store

-- the least page of a space not below one, or that there is none
abbrev pub IsNextPage : State → ℕ → ℕ → Option ℕ → Type 0
IsNextPage state space page None = (q : ℕ) → page ≤ q → page_in state space q ≡ None
IsNextPage state space page (Some found) =
    (page ≤ found) × IsSome (page_in state space found) × ((q : ℕ) → page ≤ q → q < found → page_in state space q ≡ None)

-- what the ledger has of a page on the zero frame without own lines
abbrev pub zero_holding : Holding
zero_holding = record { origin = 0; own = [] }

-- the n pages from `from` on are such
abbrev pub AreZeros : State → ℕ → ℕ → ℕ → Type 0
AreZeros state space from n = (i : ℕ) → i < n → holding_at (books state) space (from + i) ≡ Some zero_holding

-- the entries of a space's pages
unfoldable pub entries_in : State → ℕ → Pages
entries_in state space = viewed (λ _ (x : PageState). x.entry) (space_in state space).pages

-- a page awaits with the frame that it has in another space
abbrev pub AwaitsLike : State → ℕ → ℕ → ℕ → Type 0
AwaitsLike state from to page =
    option_map (λ (e : PageEntry). e.frame) (get (space_in state to).awaiting page) ≡ option_map (λ x. x.entry.frame) (page_in state from page)

-- each page below one that awaits in a space does so with the frame that it has in another one, and has no own lines there
abbrev pub AwaitBare : State → ℕ → ℕ → ℕ → Type 0
AwaitBare state from to until = (page : ℕ) → page < until → IsSome (get (space_in state to).awaiting page)
    → AwaitsLike state from to page × (has_own (books state) from page ≡ false)

-- pages below one, each of which awaits as the least, are shared from another space one after the other
pub data AreShared (from to until : ℕ) : State → State → Type 0 where
  Still : (state : State) → AreShared from to until state state
  Then : (old new : State) (page : ℕ) → page < until → IsLeast (space_in old to).awaiting page → AreShared from to until (with_shared old from to page) new
      → AreShared from to until old new

-- no page of a space below one awaits
abbrev pub NoneAwaitsBelow : State → ℕ → ℕ → Type 0
NoneAwaitsBelow state space until = (page : ℕ) → page < until → get (space_in state space).awaiting page ≡ None

-- by how much the units rise by a store that touches lines of a page, by itself and beside lines of another page of the space
pub record RisesBy (state : State) (space page : ℕ) (lines : List ℕ) (rise : ℕ) : Type 0 where
  pub one : units (ledger_after (Store (space_in state space).speculating space ((page, lines) ∷ [])) (books state)) ≡ units_of state + rise
  pub both : (other : ℕ) (more : List ℕ) → (other ≡ page → ⊥)
      → units (ledger_after (Store (space_in state space).speculating space ((page, lines) ∷ ((other, more) ∷ []))) (books state))
      ≡ units (ledger_after (Store (space_in state space).speculating space ((other, more) ∷ [])) (books state)) + rise

-- another line at a place of the region
abbrev pub with_line_at_place : MemoryView → ℕ → List ℕ → MemoryView
with_line_at_place view at bytes = record { store = with_line_at view.store at bytes; table = view.table }

-- Blocks moved whose orders ascend strictly and are below 4, so four at most. The overlay of each page but one that lay outside them
-- keeps its block.
pub record MovesFewBeside (space page : ℕ) (old new : LedgerView) : Type 0 where
  pub moves : List Move
  pub ascend : Ascend 0 4 moves
  pub stay : (q r : ℕ) (e : Entry) → (q ≡ space → r ≡ page → ⊥) → overlay_at old q r ≡ Some e → IsOutside moves e.block.unit
      → overlay_at new q r ≡ Some e
