use Rattle.std.specs.Prelude.{◌≡◌, ℕ, ◌+◌, ◌-◌, ◌*◌, ◌^◌, ◌<◌, ◌≤◌, ◌⊎◌, ◌&&◌, true, cond, nat_le, nat_lt, List, [], ◌∷◌, Option, Some, None, length, replicate, slice_index_or, slice_set}
use Rattle.sizes.specs.declared.TheConstants.{FRAME_UNITS, PAGE_LINES, UNIT_LINES}
use Rattle.line_store.specs.Lines.{line_of, with_copied, zero_lines}
use Rattle.unit_map.specs.Pieces.{AreSettled, free_blocks, free_frames, free_units, units_in}
use Rattle.unit_map.specs.Changes.{CanMove, Gives, OnlyTakes, Relocates}
use Rattle.unit_map.specs.Blocks.{LosesUnits, TakesAsked}
use Rattle.unit_map.specs.declared.block.Block.{Block}
use Rattle.store_compaction.specs.declared.moves.Move.{Move}
use Rattle.overlay_bits.specs.Lines.{has_line, rank_of}
use Rattle.segment_store.specs.Pointers.{slot_of, IsLowestFree}
use Rattle.segment_store.specs.Kept.{IsStore}
use Rattle.segment_store.specs.Store.{Store, segment_at, lines_at, place_of, line_in, frame_line, scratch_place, scratch_line, with_lines_at, IsFrame}
use Rattle.segment_store.specs.declared.segment.Segment.{Segment}

-- What a call changes, and what stays.

-- as many lines as before, and those outside a range stay
pub record KeepsLinesOutside (from count : ℕ) (old new : List (List ℕ)) : Type 0 where
  pub size : length new ≡ length old
  pub outside : (at : ℕ) → (at < from) ⊎ (from + count ≤ at) → line_of new at ≡ line_of old at

-- A segment stays: where it stands, whose it is, which lines it has, where they stand and what they are.
pub record KeepsSegment (old new : Store) (block : Block) : Type 0 where
  pub there : segment_at new block.unit ≡ segment_at old block.unit
  pub places : (line : ℕ) → has_line (lines_at old block.unit) line ≡ true → place_of new block line ≡ place_of old block line
  pub lines : (line : ℕ) → has_line (lines_at old block.unit) line ≡ true → line_in new block line ≡ line_in old block line

abbrev pub block_of : ℕ → Segment → Block
block_of unit segment = record { unit = unit; order = segment.order }

-- every segment stays
abbrev pub KeepsSegments : Store → Store → Type 0
KeepsSegments old new = (unit : ℕ) (segment : Segment) → segment_at old unit ≡ Some segment → KeepsSegment old new (block_of unit segment)

-- every one but that at a unit
abbrev pub KeepsOtherSegments : Store → ℕ → Store → Type 0
KeepsOtherSegments old but new =
    (unit : ℕ) (segment : Segment) → (unit ≡ but → ⊥) → segment_at old unit ≡ Some segment → KeepsSegment old new (block_of unit segment)

-- every frame that is taken stays so, with its lines
pub record KeepsFrame (old new : Store) (frame : ℕ) : Type 0 where
  pub stays : IsFrame new frame
  pub lines : (line : ℕ) → line < PAGE_LINES → frame_line new frame line ≡ frame_line old frame line

abbrev pub KeepsFrames : Store → Store → Type 0
KeepsFrames old new = (frame : ℕ) → IsFrame old frame → KeepsFrame old new frame

-- but for one
abbrev pub KeepsOtherFrames : Store → ℕ → Store → Type 0
KeepsOtherFrames old but new = (frame : ℕ) → (frame ≡ but → ⊥) → IsFrame old frame → KeepsFrame old new frame

-- scratch stays
abbrev pub KeepsScratch : Store → Store → Type 0
KeepsScratch old new = (line : ℕ) → line < PAGE_LINES → scratch_line new line ≡ scratch_line old line

-- the lines of a segment are those that one had before, wherever it is now
abbrev pub HasSameLines : Store → Block → Store → Block → Type 0
HasSameLines old was new now = (line : ℕ) → has_line (lines_at old was.unit) line ≡ true → line_in new now line ≡ line_in old was line

-- The calls.

-- what a new store is: all lines are zero, all frames are free, and no segment starts anywhere
pub record IsEmptyStore (frames : ℕ) (store : Store) : Type 0 where
  pub lines : store.lines ≡ zero_lines (PAGE_LINES * (frames + 1))
  pub blocks : store.blocks ≡ free_frames 0 frames
  pub segments : store.segments ≡ replicate (FRAME_UNITS * frames) None

-- a segment with these lines began in a block of an order that was free; every other segment, frames and scratch stay
pub record BeginsSegment (old new : Store) (owner order : ℕ) (bits : List ℕ) (block : Block) : Type 0 where
  pub fresh : segment_at old block.unit ≡ None
  pub segments : new.segments ≡ slice_set old.segments block.unit (Some (record { owner = owner; order = block.order; bits = bits }))
  pub there : segment_at new block.unit ≡ Some (record { owner = owner; order = block.order; bits = bits })
  pub asked : TakesAsked old.blocks order new.blocks block
  pub only : OnlyTakes old.blocks block.unit block.order new.blocks
  pub others : KeepsSegments old new
  pub frames : KeepsFrames old new
  pub scratch : KeepsScratch old new
  pub free : LosesUnits old.blocks new.blocks block
  pub units : units_in new.blocks ≡ units_in old.blocks
  pub settled : AreSettled old.blocks → AreSettled new.blocks
  pub store : IsStore new

-- the lines of a segment stand in another block as they stand in its own, and no line outside that changed
pub record CopiesSegment (old new : Store) (from to : Block) : Type 0 where
  pub outside : KeepsLinesOutside (UNIT_LINES * to.unit) (UNIT_LINES * 2 ^ to.order) old.lines new.lines
  pub places : (line : ℕ) → has_line (lines_at old from.unit) line ≡ true → place_of new to line + UNIT_LINES * from.unit ≡ place_of old from line + UNIT_LINES * to.unit
  pub lines : (line : ℕ) → has_line (lines_at old from.unit) line ≡ true → line_in new to line ≡ line_in old from line

-- a segment ended: its block is free
pub record EndsSegment (old new : Store) (block : Block) : Type 0 where
  pub segments : new.segments ≡ slice_set old.segments block.unit None
  pub lines : new.lines ≡ old.lines
  pub blocks : Gives old.blocks block.unit block.order new.blocks

-- the segment of a block has these lines now, and no line outside the block changed
pub record HasLinesNow (old new : Store) (block : Block) (bits : List ℕ) : Type 0 where
  pub segments : new.segments ≡ with_lines_at old.segments block.unit bits
  pub blocks : new.blocks ≡ old.blocks
  pub lines : KeepsLinesOutside (UNIT_LINES * block.unit) (UNIT_LINES * 2 ^ block.order) old.lines new.lines

-- a line came into a segment: below order 4 into the lowest free slot; every other line of the segment stays
pub record Inserts (old new : Store) (block : Block) (line : ℕ) (bytes : List ℕ) : Type 0 where
  pub here : line_in new block line ≡ bytes
  pub slot : block.order < 4 → IsLowestFree (line_of old.lines (UNIT_LINES * block.unit)) (slot_of (line_of new.lines (UNIT_LINES * block.unit)) line)
  pub places : (other : ℕ) → has_line (lines_at old block.unit) other ≡ true → place_of new block other ≡ place_of old block other
  pub lines : (other : ℕ) → has_line (lines_at old block.unit) other ≡ true → line_in new block other ≡ line_in old block other
  pub rest : (at : ℕ) → (at ≡ place_of new block line → ⊥) → (block.order < 4 → at ≡ UNIT_LINES * block.unit → ⊥) → line_of new.lines at ≡ line_of old.lines at

-- lines came into an empty segment from scratch: below order 4 into the slots 1, 2, 3 and so on
pub record Lays (old new : Store) (block : Block) (bits : List ℕ) : Type 0 where
  pub lines : (line : ℕ) → has_line bits line ≡ true → line_in new block line ≡ scratch_line old line
  pub slots : block.order < 4 → (line : ℕ) → has_line bits line ≡ true → slot_of (line_of new.lines (UNIT_LINES * block.unit)) line ≡ rank_of bits line + 1

-- the lines of a segment were copied to their own places in scratch, and no other line changed
pub record Lifts (old new : Store) (block : Block) (bits : List ℕ) : Type 0 where
  pub segments : new.segments ≡ old.segments
  pub blocks : new.blocks ≡ old.blocks
  pub lifted : (line : ℕ) → has_line bits line ≡ true → scratch_line new line ≡ line_in old block line
  pub size : length new.lines ≡ length old.lines
  pub others : (at : ℕ) → ((line : ℕ) → has_line bits line ≡ true → at ≡ scratch_place old + line → ⊥) → line_of new.lines at ≡ line_of old.lines at

-- the lines of a frame that is taken changed, and nothing else
pub record FillsFrame (old new : Store) (frame : ℕ) : Type 0 where
  pub blocks : new.blocks ≡ old.blocks
  pub same : new.segments ≡ old.segments
  pub segments : KeepsSegments old new
  pub frames : KeepsOtherFrames old frame new
  pub scratch : KeepsScratch old new
  pub stays : IsFrame new frame
  pub store : IsStore new

-- Moves.

-- the segments that start in a range go to another one, which had none
pub record MovesSegments (from to count : ℕ) (old new : List (Option Segment)) : Type 0 where
  pub size : length new ≡ length old
  pub inside : (i : ℕ) → i < count → slice_index_or new (to + i) None ≡ slice_index_or old (from + i) None
  pub left : (i : ℕ) → i < count → slice_index_or new (from + i) None ≡ None
  pub outside : (unit : ℕ) → (unit < from) ⊎ (from + count ≤ unit) → (unit < to) ⊎ (to + count ≤ unit) → slice_index_or new unit None ≡ slice_index_or old unit None

-- a segment is at another unit now: whose it is and which lines it has stays, and they are what they were
pub record GoesAlong (old new : Store) (from to : ℕ) (segment : Segment) : Type 0 where
  pub there : segment_at new to ≡ Some segment
  pub places : (line : ℕ) → has_line segment.bits line ≡ true → place_of new (block_of to segment) line + UNIT_LINES * from ≡ place_of old (block_of from segment) line + UNIT_LINES * to
  pub lines : (line : ℕ) → has_line segment.bits line ≡ true → line_in new (block_of to segment) line ≡ line_in old (block_of from segment) line

-- each segment inside a moved block goes along, and every other one stays
abbrev pub SegmentsGoAlong : Store → Store → Move → Type 0
SegmentsGoAlong old new m =
    (unit : ℕ) (segment : Segment) → segment_at old unit ≡ Some segment → m.from ≤ unit → unit < m.from + 2 ^ m.order
    → GoesAlong old new unit (m.to + (unit - m.from)) segment

abbrev pub OtherSegmentsStay : Store → Store → Move → Type 0
OtherSegmentsStay old new m =
    (unit : ℕ) (segment : Segment) → segment_at old unit ≡ Some segment → (unit < m.from) ⊎ (m.from + 2 ^ m.order ≤ unit)
    → KeepsSegment old new (block_of unit segment)

-- one move was made: the blocks inside the block at `from` went to that at `to`, with their lines, owners and sets of lines
pub record MakesMove (old new : Store) (m : Move) : Type 0 where
  pub blocks : Relocates old.blocks m.from m.to m.order new.blocks
  pub lines : new.lines ≡ with_copied old.lines (UNIT_LINES * m.from) (UNIT_LINES * m.to) (UNIT_LINES * 2 ^ m.order)
  pub segments : MovesSegments m.from m.to (2 ^ m.order) old.segments new.segments
  pub along : SegmentsGoAlong old new m
  pub others : OtherSegmentsStay old new m
  pub fewer : free_blocks new.blocks < free_blocks old.blocks

-- a segment of 16 units never moves
abbrev pub WholeSegmentsStay : Store → Store → Type 0
WholeSegmentsStay old new = (unit : ℕ) (segment : Segment) → segment.order ≡ 4 → segment_at old unit ≡ Some segment → KeepsSegment old new (block_of unit segment)

-- what no move changes: frames, scratch, segments of 16 units, and how many units are free
pub record IsKept (old new : Store) : Type 0 where
  pub whole : WholeSegmentsStay old new
  pub frames : KeepsFrames old new
  pub scratch : KeepsScratch old new
  pub free : free_units new.blocks ≡ free_units old.blocks
  pub units : units_in new.blocks ≡ units_in old.blocks
  pub store : IsStore new

-- a move was made that could be made
pub record IsMade (old new : Store) (m : Move) : Type 0 where
  pub can : CanMove old.blocks m.from m.to m.order
  pub moves : MakesMove old new m
  pub kept : IsKept old new

-- these moves were made, one after the other
abbrev pub MakesMoves : Store → List Move → Store → Type 0
MakesMoves old [] new = old ≡ new
MakesMoves old (m ∷ ms) new = (mid : Store) × (IsMade old mid m × MakesMoves mid ms new)

-- a unit lies outside each block that moved
abbrev pub IsOutside : List Move → ℕ → Type 0
IsOutside [] unit = Unit {0}
IsOutside (m ∷ ms) unit = ((unit < m.from) ⊎ (m.from + 2 ^ m.order ≤ unit)) × IsOutside ms unit

-- every segment outside stays
abbrev pub SegmentsOutsideStay : Store → Store → List Move → Type 0
SegmentsOutsideStay old new ms =
    (unit : ℕ) (segment : Segment) → segment_at old unit ≡ Some segment → IsOutside ms unit → KeepsSegment old new (block_of unit segment)

-- the lines that moves copy
abbrev pub moved_lines : List Move → ℕ
moved_lines [] = 0
moved_lines (m ∷ ms) = UNIT_LINES * 2 ^ m.order + moved_lines ms

-- Where a segment goes by moves: by one, and by those that were made one after the other.
unfoldable pub unit_after : Move → ℕ → ℕ
unit_after m unit = cond (nat_le m.from unit && nat_lt unit (m.from + 2 ^ m.order)) (m.to + (unit - m.from)) unit

abbrev pub units_after : List Move → ℕ → ℕ
units_after [] unit = unit
units_after (m ∷ ms) unit = units_after ms (unit_after m unit)

-- a unit lies in a block to which one of them went
abbrev pub IsTarget : List Move → ℕ → Type 0
IsTarget [] unit = ⊥
IsTarget (m ∷ ms) unit = ((m.to ≤ unit) × (unit < m.to + 2 ^ m.order)) ⊎ IsTarget ms unit

-- each segment goes along to the unit that a function tells, and there are no others
pub record AreCarried (old new : Store) (by : ℕ → ℕ) : Type 0 where
  pub along : (unit : ℕ) (segment : Segment) → segment_at old unit ≡ Some segment → GoesAlong old new unit (by unit) segment
  pub back : (unit : ℕ) (segment : Segment) → segment_at new unit ≡ Some segment → (was : ℕ) × (segment_at old was ≡ Some segment) × (by was ≡ unit)

-- blocks below a frame that lie in a memory
abbrev pub AreLow : List Move → Type 0
AreLow [] = Unit {0}
AreLow (m ∷ ms) = (m.order < 4) × (m.to + 2 ^ m.order ≤ 2 ^ 20) × AreLow ms
