use Rattle.std.specs.Prelude.{◌≡◌, ℕ, ◌+◌, ◌*◌, ◌<◌, Some, length}
use Rattle.sizes.specs.declared.TheConstants.{PAGE_LINES, UNIT_LINES}
use Rattle.line_store.specs.Lines.{line_of}
use Rattle.unit_map.specs.Pieces.{ArePieces, IsPiece, taken_at, units_in}
use Rattle.overlay_bits.specs.Lines.{AreLines}
use Rattle.segment_store.specs.Pointers.{ArePointers, capacity_of}
use Rattle.segment_store.specs.Store.{Store, segment_at}
use Rattle.segment_store.specs.declared.segment.Segment.{Segment}

-- What is true of every store.

-- Scratch is the one frame behind the units. Each segment is a taken block, and one below order 4 begins with its line of pointers.
pub record IsStore (store : Store) : Type 0 where
  pub pieces : ArePieces store.blocks
  pub lines : length store.lines ≡ UNIT_LINES * units_in store.blocks + PAGE_LINES
  pub units : length store.segments ≡ units_in store.blocks
  pub taken : (unit : ℕ) (segment : Segment) → segment_at store unit ≡ Some segment → IsPiece store.blocks (taken_at unit segment.order)
  pub sets : (unit : ℕ) (segment : Segment) → segment_at store unit ≡ Some segment → AreLines segment.bits
  pub pointers : (unit : ℕ) (segment : Segment) → segment_at store unit ≡ Some segment → segment.order < 4
      → ArePointers (capacity_of segment.order) segment.bits (line_of store.lines (UNIT_LINES * unit))
