use Rattle.std.specs.Prelude.{◌≡◌, ℕ, suc, ◌+◌, ◌*◌, ◌^◌, ◌==◌, ◌≤◌, ◌<◌, ◌⊎◌, ◌||◌, if◌then◌else◌, Bool, true, false, List, [], ◌∷◌, length, IsTrue, Option, Some, None, IsSome}
use Rattle.std.specs.Option.{option_and_then, option_map}
use Rattle.std.specs.FinMap.{get, len}
use Rattle.sizes.specs.declared.TheConstants.{FRAME_UNITS, LAST_SPACE, MOST_FRAMES, PAGE_END, PAGE_LINES}
use Rattle.frame_pool.specs.Counts.{sharers_of}
use Rattle.ledger.specs.Changes.{has_own}
use Rattle.ledger.specs.Events.{Store, ledger_after}
use Rattle.ledger.specs.Ledger.{Holding, Ledger, has_origin, holding_at}
use Rattle.ledger.specs.Units.{overlaid_pages, own_lines, sharers, units}
use Rattle.page_table.specs.Run.{entry_at}
use Rattle.page_table.specs.declared.entry.PageEntry.{PageEntry}
use Rattle.page_table.specs.declared.run.PageRun.{PageRun}
use Rattle.overlay_mapping_table.specs.declared.entry.Entry.{Entry}
use Rattle.number_maps.specs.Views.{viewed}
use Rattle.page_table.specs.Table.{Pages, is_within}
use Rattle.space_maps.specs.Spaces.{cut_pages, page_in, space_in}
use Rattle.space_ledger.specs.Space.{IsLeast}
use Rattle.space_ledger.specs.View.{LedgerView, PageView, SpaceView, frame_at, frame_awaiting, ledger_of, overlay_at, with_page_shared}

-- What the calls ask and answer.

-- each frame but the zero frame has as many sharers as pages name it
abbrev pub AreSharersCounted : Ledger → ℕ → ℕ → List ℕ → Type 0
AreSharersCounted ledger zero_frame frames counts = (f : ℕ) → f < frames → (f ≡ zero_frame → ⊥) → sharers_of counts f ≡ sharers ledger (f + 1)

-- none of the n pages from `from` on is there
abbrev pub ArePagesFree : LedgerView → ℕ → ℕ → ℕ → Type 0
ArePagesFree view space from n = (page : ℕ) → IsTrue (is_within from n page) → page_in view space page ≡ None

-- the n pages from `from` on are there without own lines; and they are on the zero frame
abbrev pub AreBare : LedgerView → ℕ → ℕ → ℕ → Type 0
AreBare view space from n = (i : ℕ) → i < n → IsSome (page_in view space (from + i)) × (overlay_at view space (from + i) ≡ None)

abbrev pub AreBareOnZero : LedgerView → ℕ → ℕ → ℕ → Type 0
AreBareOnZero view space from n =
    (i : ℕ) → i < n → (frame_at view space (from + i) ≡ Some view.zero_frame) × (overlay_at view space (from + i) ≡ None)

-- the pages of a run are there, with its entries and without own lines
pub record IsBareRun (view : LedgerView) (space : ℕ) (run : PageRun) : Type 0 where
  pub has : (i : ℕ) → i < run.n → option_map (λ x. x.entry) (page_in view space (run.page + i)) ≡ Some (entry_at run i)
  pub bare : (i : ℕ) → i < run.n → overlay_at view space (run.page + i) ≡ None
  pub fits : run.rising ≡ true → run.entry.frame + run.n ≤ 2 ^ 32

-- some pages from one on are such a run, so many at most
abbrev pub IsBareFrom : LedgerView → ℕ → ℕ → ℕ → Option PageRun → Type 0
IsBareFrom view space page most None = Unit {0}
IsBareFrom view space page most (Some run) = (run.page ≡ page) × (0 < run.n) × (run.n ≤ most) × IsBareRun view space run

-- the least page of a space not below one, or that there is none
abbrev pub IsNextOf : LedgerView → ℕ → ℕ → Option ℕ → Type 0
IsNextOf view space page None = (q : ℕ) → page ≤ q → page_in view space q ≡ None
IsNextOf view space page (Some found) =
    (page ≤ found) × IsSome (page_in view space found) × ((q : ℕ) → page ≤ q → q < found → page_in view space q ≡ None)

-- the least page of a space not below one that has an overlay, or that there is none
abbrev pub IsNextOverlaid : LedgerView → ℕ → ℕ → Option ℕ → Type 0
IsNextOverlaid view space page None = (q : ℕ) → page ≤ q → overlay_at view space q ≡ None
IsNextOverlaid view space page (Some found) =
    (page ≤ found) × IsSome (overlay_at view space found) × ((q : ℕ) → page ≤ q → q < found → overlay_at view space q ≡ None)

-- the least page of a space not below one that has own lines, or that there is none
abbrev pub IsNextOwn : Ledger → ℕ → ℕ → Option ℕ → Type 0
IsNextOwn ledger space page None = (q : ℕ) → page ≤ q → has_own ledger space q ≡ false
IsNextOwn ledger space page (Some found) =
    (page ≤ found) × (has_own ledger space found ≡ true) × ((q : ℕ) → page ≤ q → q < found → has_own ledger space q ≡ false)

-- the entries of a space's pages
unfoldable pub entries_of : LedgerView → ℕ → Pages
entries_of view space = viewed (λ page (x : PageView). x.entry) (space_in view space).pages

-- there is room for a page's overlay: it has one already, or fewer than 16 pages a frame have one; none needs no room
abbrev pub HasOverlayRoom : LedgerView → ℕ → ℕ → Option Entry → Type 0
HasOverlayRoom view space page None = Unit {0}
HasOverlayRoom view space page (Some entry) =
    IsSome (option_and_then (λ x. x.overlay) (page_in view space page)) ⊎ (overlaid_pages (ledger_of view) < FRAME_UNITS * view.frames)

-- fewer than 16 pages a frame have an overlay
abbrev pub HasSpare : LedgerView → Type 0
HasSpare view = overlaid_pages (ledger_of view) < FRAME_UNITS * view.frames

-- an overlay has a line, and at most those of a page
abbrev pub IsLined : Entry → Type 0
IsLined overlay = (0 < length overlay.bits) × (length overlay.bits ≤ PAGE_LINES)

-- what the ledger has of a page
abbrev pub held_at : LedgerView → ℕ → ℕ → Option Holding
held_at view space page = holding_at (ledger_of view) space page

-- what is true of every view: how many spaces and overlays there are, how far pages go, and that an overlay has lines
pub record IsSound (view : LedgerView) : Type 0 where
  pub few : len view.spaces ≤ LAST_SPACE + 1
  pub most : overlaid_pages (ledger_of view) ≤ FRAME_UNITS * view.frames
  pub low : (space page : ℕ) → IsSome (page_in view space page) → page < PAGE_END
  pub lines : (space page : ℕ) (x : PageView) (overlay : Entry) → page_in view space page ≡ Some x → x.overlay ≡ Some overlay
      → (0 < length overlay.bits) × (length overlay.bits ≤ PAGE_LINES)

-- no frame but the zero frame is named twice in a table
abbrev pub NamesOnce : ℕ → Pages → Type 0
NamesOnce zero_frame table =
    (p q : ℕ) (e f : PageEntry) → get table p ≡ Some e → get table q ≡ Some f → e.frame ≡ f.frame → (e.frame ≡ zero_frame → ⊥) → p ≡ q

-- the frame that a space names at one of its pages, or at one that awaits
abbrev pub frame_named : SpaceView → Bool → ℕ → Option ℕ
frame_named x awaits page =
    if awaits then option_map (λ (e : PageEntry). e.frame) (get x.awaiting page) else option_map (λ (y : PageView). y.entry.frame) (get x.pages page)

-- nor by two of its pages, by two that await, or by one of either
abbrev pub HasFramesApart : ℕ → SpaceView → Type 0
HasFramesApart zero_frame x =
    (a b : Bool) (p q f : ℕ) → frame_named x a p ≡ Some f → frame_named x b q ≡ Some f → (f ≡ zero_frame → ⊥) → (a ≡ b) × (p ≡ q)

-- a frame is the zero frame, or no other page of the space names it
abbrev pub IsFreeFor : LedgerView → ℕ → ℕ → ℕ → Type 0
IsFreeFor view space page frame =
    (frame ≡ view.zero_frame) ⊎ ((q : ℕ) (y : PageView) → page_in view space q ≡ Some y → y.entry.frame ≡ frame → q ≡ page)

-- the frame that a page named, where it isn't the zero frame and no page names it now
abbrev pub given_up : LedgerView → Option PageView → Option ℕ
given_up now None = None
given_up now (Some x) = if x.entry.frame == now.zero_frame || has_origin (ledger_of now) (x.entry.frame + 1) then None else Some x.entry.frame

-- pages of a run went one after the other: what was given up with each is what is given up once all went; and that is nothing
abbrev pub GivesUpAtLast : LedgerView → LedgerView → ℕ → PageRun → Type 0
GivesUpAtLast old new space run = (i : ℕ) → i < run.n
    → given_up (cut_pages old space run.page (suc i)) (page_in old space (run.page + i)) ≡ given_up new (page_in old space (run.page + i))

abbrev pub GivesNothingUp : LedgerView → LedgerView → ℕ → PageRun → Type 0
GivesNothingUp old new space run = (i : ℕ) → i < run.n → given_up new (page_in old space (run.page + i)) ≡ None

-- what is kept of a ledger
pub record AreBooks (ledger : Ledger) (zero_frame frames : ℕ) (counts : List ℕ) (units_kept lines_kept : ℕ) : Type 0 where
  pub room : length counts ≡ frames
  pub counted : AreSharersCounted ledger zero_frame frames counts
  pub units_is : units_kept ≡ units ledger
  pub lines_is : lines_kept ≡ own_lines ledger

-- what is kept beside the tables: how many pages name each frame but the zero frame, the units, and the own lines
pub record IsBooked (view : LedgerView) (counts : List ℕ) (units_kept lines_kept : ℕ) : Type 0 where
  pub some : 0 < view.frames
  pub frames : view.frames ≤ MOST_FRAMES
  pub zero_in : view.zero_frame < view.frames
  pub inside : (space page : ℕ) (x : PageView) → page_in view space page ≡ Some x → x.entry.frame < view.frames
  pub apart : (space : ℕ) → HasFramesApart view.zero_frame (space_in view space)
  pub books : AreBooks (ledger_of view) view.zero_frame view.frames counts units_kept lines_kept

-- each page below one that awaits in a space does so with the frame that it has in another one, and has no overlay there
abbrev pub AreBareBelow : LedgerView → ℕ → ℕ → ℕ → Type 0
AreBareBelow view from to until = (page : ℕ) → page < until → IsSome (get (space_in view to).awaiting page)
    → (frame_awaiting view to page ≡ frame_at view from page) × (overlay_at view from page ≡ None)

-- pages below one, each of which awaits as the least and isn't there, are shared from another space one after the other, without
-- overlays
pub data AreSharedBare (from to until : ℕ) : LedgerView → LedgerView → Type 0 where
  Still : (view : LedgerView) → AreSharedBare from to until view view
  Then : (old new : LedgerView) (page : ℕ) → page < until → IsLeast (space_in old to).awaiting page → page_in old to page ≡ None
      → AreSharedBare from to until (with_page_shared old from to page None) new → AreSharedBare from to until old new

-- by how much the units rise by a store that touches lines of a page
abbrev pub StoreRisesBy : LedgerView → ℕ → ℕ → List ℕ → ℕ → Type 0
StoreRisesBy view space page lines rise =
    units (ledger_after (Store (space_in view space).speculating space ((page, lines) ∷ [])) (ledger_of view)) ≡ units (ledger_of view) + rise

-- whatever lines of whatever other page of the space a store touches too, it rises by as much more
abbrev pub RisesBeside : LedgerView → ℕ → ℕ → List ℕ → ℕ → Type 0
RisesBeside view space page lines rise = (other : ℕ) (more : List ℕ) → (other ≡ page → ⊥)
    → (units (ledger_after (Store (space_in view space).speculating space ((page, lines) ∷ ((other, more) ∷ []))) (ledger_of view))
    ≡ units (ledger_after (Store (space_in view space).speculating space ((other, more) ∷ [])) (ledger_of view)) + rise)
