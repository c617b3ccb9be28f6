use Rattle.std.specs.Prelude.{◌≡◌, ℕ, ◌+◌, ◌^◌, ◌<◌, ◌≤◌, ◌⊎◌, true, cond, nat_eq, List, Option, Some, None, IsSome, option_map, slice_set}
use Rattle.sizes.specs.declared.TheConstants.{PAGE_LINES}
use Rattle.unit_map.specs.Pieces.{AreSettled, CanSettle, free_units, units_in}
use Rattle.unit_map.specs.declared.block.Block.{Block}
use Rattle.store_compaction.specs.declared.moves.Move.{Move}
use Rattle.store_compaction.specs.Next.{Ascend}
use Rattle.overlay_address.specs.Names.{page_of, space_of}
use Rattle.overlay_bits.specs.Lines.{has_line, rank_of, with_line}
use Rattle.overlay_mapping_table.specs.declared.entry.Entry.{Entry}
use Rattle.segment_store.specs.declared.segment.Segment.{Segment}
use Rattle.segment_store.specs.Kept.{IsStore}
use Rattle.segment_store.specs.Store.{Store, composed_line, frame_line, line_in, segment_at}
use Rattle.segment_store.specs.Changes.{AreCarried, FillsFrame, IsOutside, IsTarget, KeepsFrames, KeepsOtherSegments, KeepsScratch, WholeSegmentsStay}
use Rattle.space_maps.specs.Laws.{KeepsSpaces}
use Rattle.space_maps.specs.Spaces.{page_in}
use Rattle.space_ledger.specs.View.{LedgerView, PageView, overlay_at, with_block, with_overlay}
use Rattle.overlay_pages.specs.Lines.{line_in_page, page_lines}
use Rattle.overlay_pages.specs.State.{PageState, State}
use Rattle.overlay_pages.specs.View.{IsJoined, IsJoinedWith, MemoryView, state_of, view_of}

-- What the steps of calls do, of which each leaves a view that is joined.

-- the segment that starts at a unit, if one does, is that of an overlaid page; and the block of that page is there now
abbrev pub IsOfPage : LedgerView → Option Segment → Type 0
IsOfPage table None = Unit {0}
IsOfPage table (Some segment) = IsSome (overlay_at table (space_of segment.owner) (page_of segment.owner))

abbrev pub relocated : LedgerView → ℕ → Option Segment → LedgerView
relocated table unit None = table
relocated table unit (Some segment) =
    with_block table (space_of segment.owner) (page_of segment.owner) (record { unit = unit; order = segment.order })

-- Segments below 16 units may have moved, and all else is as before.
pub record Moved (old new : MemoryView) : Type 0 where
  pub joined : IsJoined new
  pub state : state_of new ≡ state_of old
  pub free : free_units new.store.blocks ≡ free_units old.store.blocks
  pub scratch : KeepsScratch old.store new.store
  pub frames : KeepsFrames old.store new.store
  pub whole : WholeSegmentsStay old.store new.store

-- Where blocks are whose segments went to the units that a function tells.
abbrev pub went : (ℕ → ℕ) → Block → Block
went by block = record { unit = by block.unit; order = block.order }

unfoldable pub went_overlay : (ℕ → ℕ) → Entry → Entry
went_overlay by overlay = record { bits = overlay.bits; block = went by overlay.block }

unfoldable pub went_page : (ℕ → ℕ) → PageView → PageView
went_page by x = record { entry = x.entry; overlay = option_map (went_overlay by) x.overlay }

-- segments went so in the store, and the tables have each page as it was before, or with the block that it has now
pub record IsBehind (was new : Store) (old now : LedgerView) (by : ℕ → ℕ) : Type 0 where
  pub joined : IsJoinedWith CanSettle (view_of was old)
  pub carried : AreCarried was new by
  pub keeps : KeepsSpaces old now
  pub pages : (q r : ℕ) → (page_in now q r ≡ page_in old q r) ⊎ (page_in now q r ≡ option_map (went_page by) (page_in old q r))

pub record IsAhead (new : Store) (table : LedgerView) : Type 0 where
  pub was : Store
  pub old : LedgerView
  pub by : ℕ → ℕ
  pub behind : IsBehind was new old table by

-- a page whose segment went to a unit has the block there
abbrev pub FollowsAt : (ℕ → ℕ) → LedgerView → LedgerView → ℕ → Type 0
FollowsAt by old now unit =
    (q r : ℕ) (x : PageView) (e : Entry) → page_in old q r ≡ Some x → x.overlay ≡ Some e → by e.block.unit ≡ unit
    → page_in now q r ≡ Some (went_page by x)

-- the tables came after it at units from one to below another one
pub record Tells (was new : Store) (old table later : LedgerView) (by : ℕ → ℕ) (from to : ℕ) : Type 0 where
  pub behind : IsBehind was new old later by
  pub kept : (unit : ℕ) → FollowsAt by old table unit → FollowsAt by old later unit
  pub told : (unit : ℕ) → from ≤ unit → unit < to → FollowsAt by old later unit

abbrev pub Follows : Store → LedgerView → LedgerView → Move → Type 0
Follows new table later m =
    (was : Store) (old : LedgerView) (by : ℕ → ℕ) → IsBehind was new old table by → Tells was new old table later by m.to (m.to + 2 ^ m.order)

-- at those to which moves went
abbrev pub FollowsAll : Store → LedgerView → LedgerView → List Move → Type 0
FollowsAll new table later ms =
    (was : Store) (old : LedgerView) (by : ℕ → ℕ) → IsBehind was new old table by
    → IsBehind was new old later by × ((unit : ℕ) → IsTarget ms unit → FollowsAt by old later unit)

-- blocks moved whose orders ascend strictly and are below 4: an overlay outside them keeps its block
pub record MovesFew (old new : LedgerView) : Type 0 where
  pub moves : List Move
  pub ascend : Ascend 0 4 moves
  pub stay : (q r : ℕ) (e : Entry) → overlay_at old q r ≡ Some e → IsOutside moves e.block.unit → overlay_at new q r ≡ Some e

-- every other page keeps its overlay
abbrev pub KeepsOtherOverlays : ℕ → ℕ → LedgerView → LedgerView → Type 0
KeepsOtherOverlays space page old new = (q r : ℕ) → (q ≡ space → r ≡ page → ⊥) → overlay_at new q r ≡ overlay_at old q r

-- a page whose overlay gets one more line
abbrev pub joins : ℕ → List ℕ → PageState → PageState
joins line bytes x = record { entry = x.entry; own = with_line x.own line; lines = slice_set x.lines line bytes; base = x.base }

-- the tables as they were, but that the overlay of a page has these lines and one more, at a block
abbrev pub HasJoined : LedgerView → LedgerView → ℕ → ℕ → List ℕ → ℕ → Block → Type 0
HasJoined old new space page bits line block =
    new ≡ with_overlay old space page (Some (record { bits = with_line bits line; block = block }))

-- a page whose overlay has lines of scratch, and one line more
abbrev pub laid_line : Store → List ℕ → ℕ → List ℕ → ℕ → ℕ → List ℕ
laid_line store bits line bytes frame i = cond (nat_eq line i) bytes (composed_line store frame bits i)

abbrev pub laid : Store → List ℕ → ℕ → List ℕ → PageState → PageState
laid store bits line bytes x = record {
  entry = x.entry;
  own = with_line bits line;
  lines = page_lines (laid_line store bits line bytes x.entry.frame);
  base = x.base;
}

-- A segment began with lines that were given.
pub record IsLaid (old new : Store) (owner : ℕ) (block : Block) (bits : List ℕ) (given : ℕ → List ℕ) : Type 0 where
  pub fresh : segment_at old block.unit ≡ None
  pub there : segment_at new block.unit ≡ Some (record { owner = owner; order = block.order; bits = bits })
  pub elsewhere : (unit : ℕ) → (unit ≡ block.unit → ⊥) → segment_at new unit ≡ segment_at old unit
  pub kept : KeepsOtherSegments old block.unit new
  pub frames : KeepsFrames old new
  pub lines : (i : ℕ) → i < 64 → has_line bits i ≡ true → line_in new block i ≡ given i
  pub free : free_units new.blocks + 2 ^ block.order ≡ free_units old.blocks
  pub whole : units_in new.blocks ≡ units_in old.blocks
  pub settled : AreSettled old.blocks → AreSettled new.blocks
  pub store : IsStore new

-- a page with an overlay of lines that are given
abbrev pub given_page : List ℕ → (ℕ → List ℕ) → PageState → PageState
given_page bits given x = record {
  entry = x.entry;
  own = bits;
  lines = page_lines (λ i. cond (has_line bits i) (given i) (line_in_page x.base i));
  base = x.base;
}

-- a line of a set, where those of the set stand one behind the other
abbrev pub by_rank : List ℕ → List (List ℕ) → ℕ → List ℕ
by_rank bits kept i = line_in_page kept (rank_of bits i)

-- lines of a page, as it is seen, stand so
abbrev pub AreKept : State → ℕ → ℕ → List ℕ → List (List ℕ) → Type 0
AreKept state space page bits kept =
    (x : PageState) → page_in state space page ≡ Some x → (i : ℕ) → i < PAGE_LINES → has_line bits i ≡ true → by_rank bits kept i ≡ line_in_page x.lines i

-- one line of a frame that is taken changed, and nothing else
pub record PutsLine (old new : Store) (frame line : ℕ) (bytes : List ℕ) : Type 0 where
  pub fills : FillsFrame old new frame
  pub here : frame_line new frame line ≡ bytes
  pub others : (i : ℕ) → (i ≡ line → ⊥) → frame_line new frame i ≡ frame_line old frame i
