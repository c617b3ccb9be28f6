use Rattle.std.specs.Prelude.{◌≡◌, ℕ, ◌+◌, ◌*◌, ◌<◌, ◌⊎◌, true, cond, nat_eq, List, [], Option, Some, None, option_map, slice_index_or, slice_set, take, drop}
use Rattle.std.specs.Option.{option_map_or}
use Rattle.sizes.specs.declared.TheConstants.{FRAME_UNITS, PAGE_LINES, UNIT_LINES}
use Rattle.line_store.specs.Lines.{line_of}
use Rattle.unit_map.specs.Pieces.{Piece, IsPiece, taken_at, units_in}
use Rattle.unit_map.specs.declared.block.Block.{Block}
use Rattle.overlay_bits.specs.Lines.{has_line, with_line}
use Rattle.segment_store.specs.Pointers.{slot_of}
use Rattle.segment_store.specs.declared.segment.Segment.{Segment}

-- What a store is seen as.

-- the lines of the region, the blocks of its units, and by unit the segment that starts there
pub record Store : Type 0 where
  pub lines : List (List ℕ)
  pub blocks : List Piece
  pub segments : List (Option Segment)

-- the segment that starts at a unit
abbrev pub segment_at : Store → ℕ → Option Segment
segment_at store unit = slice_index_or store.segments unit None

-- the lines that it has, ascending
abbrev pub set_in : List (Option Segment) → ℕ → List ℕ
set_in segments unit = option_map_or (λ (s : Segment). s.bits) (slice_index_or segments unit None) []

abbrev pub lines_at : Store → ℕ → List ℕ
lines_at store unit = set_in store.segments unit

-- a segment of the block's order starts at its unit
pub record IsSegment (store : Store) (block : Block) : Type 0 where
  pub segment : Segment
  pub there : segment_at store block.unit ≡ Some segment
  pub order : segment.order ≡ block.order

-- Where a line of a segment stands in the region: at its own place in a segment of order 4, else in its slot.
abbrev pub place_in : List (List ℕ) → ℕ → ℕ → ℕ → ℕ
place_in lines unit order line = UNIT_LINES * unit + cond (nat_eq order 4) line (slot_of (line_of lines (UNIT_LINES * unit)) line)

abbrev pub place_of : Store → Block → ℕ → ℕ
place_of store block line = place_in store.lines block.unit block.order line

-- what the line is
abbrev pub line_in : Store → Block → ℕ → List ℕ
line_in store block line = line_of store.lines (place_of store block line)

-- where a line of a frame stands, and what it is
abbrev pub frame_place : ℕ → ℕ → ℕ
frame_place frame line = PAGE_LINES * frame + line

abbrev pub frame_line : Store → ℕ → ℕ → List ℕ
frame_line store frame line = line_of store.lines (frame_place frame line)

-- a frame that is taken: a taken block of order 4 at which no segment starts
pub record IsFrame (store : Store) (frame : ℕ) : Type 0 where
  pub taken : IsPiece store.blocks (taken_at (FRAME_UNITS * frame) 4)
  pub alone : segment_at store (FRAME_UNITS * frame) ≡ None

-- a line of a segment stands at a place of the region, or one of a frame that is taken does
pub record IsSegmentPlace (store : Store) (at : ℕ) : Type 0 where
  pub block : Block
  pub line : ℕ
  pub there : IsSegment store block
  pub has : has_line (lines_at store block.unit) line ≡ true
  pub at_is : place_of store block line ≡ at

pub record IsFramePlace (store : Store) (at : ℕ) : Type 0 where
  pub frame : ℕ
  pub line : ℕ
  pub taken : IsFrame store frame
  pub low : line < PAGE_LINES
  pub at_is : frame_place frame line ≡ at

abbrev pub HoldsLine : Store → ℕ → Type 0
HoldsLine store at = IsSegmentPlace store at ⊎ IsFramePlace store at

-- where scratch begins: behind the last unit
abbrev pub scratch_place : Store → ℕ
scratch_place store = UNIT_LINES * units_in store.blocks

abbrev pub scratch_line : Store → ℕ → List ℕ
scratch_line store line = line_of store.lines (scratch_place store + line)

-- the lines of a frame, and those of scratch
abbrev pub frame_page : Store → ℕ → List (List ℕ)
frame_page store frame = take PAGE_LINES (drop (PAGE_LINES * frame) store.lines)

abbrev pub scratch_page : Store → List (List ℕ)
scratch_page store = take PAGE_LINES (drop (scratch_place store) store.lines)

-- a line of scratch where a set has it, else that of a frame
abbrev pub composed_line : Store → ℕ → List ℕ → ℕ → List ℕ
composed_line store frame bits line = cond (has_line bits line) (scratch_line store line) (frame_line store frame line)

-- the store with another line there
abbrev pub with_line_at : Store → ℕ → List ℕ → Store
with_line_at store at line = record { lines = slice_set store.lines at line; blocks = store.blocks; segments = store.segments }

-- with another line of a segment, or of a frame
abbrev pub with_segment_line : Store → Block → ℕ → List ℕ → Store
with_segment_line store block line = with_line_at store (place_of store block line)

abbrev pub with_frame_line : Store → ℕ → ℕ → List ℕ → Store
with_frame_line store frame line = with_line_at store (frame_place frame line)

-- the lines of a segment, and one more
abbrev pub lines_with : Store → Block → ℕ → List ℕ
lines_with store block line = with_line (lines_at store block.unit) line

-- the segments, of which that at a unit has these lines
abbrev pub with_lines_at : List (Option Segment) → ℕ → List ℕ → List (Option Segment)
with_lines_at segments unit lines =
    slice_set segments unit (option_map (λ (s : Segment). record { owner = s.owner; order = s.order; bits = lines }) (slice_index_or segments unit None))

-- has one more line
abbrev pub with_one_more : List (Option Segment) → ℕ → ℕ → List (Option Segment)
with_one_more segments unit line = with_lines_at segments unit (with_line (set_in segments unit) line)

-- the segments, of which that at one unit is at another one too, with another owner
abbrev pub with_copy_at : List (Option Segment) → ℕ → ℕ → ℕ → List (Option Segment)
with_copy_at segments from to owner =
    slice_set segments to (option_map (λ (s : Segment). record { owner = owner; order = s.order; bits = s.bits }) (slice_index_or segments from None))
