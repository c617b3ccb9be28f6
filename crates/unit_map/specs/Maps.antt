use Rattle.std.specs.Prelude.{◌≡◌, ℕ, List}
use Rattle.mark_levels.specs.Levels.{AreMarks}
use Rattle.unit_map.specs.Pieces.{free_units}
use Rattle.unit_map.specs.Cells.{IsTable, pieces_of}
use Rattle.unit_map.specs.Counted.{AreCounts}

-- what a map keeps: its table with the marks of its frames, how many free blocks there are of each order, and the number of units that are free
pub record IsMap (cells marks counts : List ℕ) (free : ℕ) : Type 0 where
  pub table : IsTable cells
  pub marked : AreMarks cells marks
  pub counts_are : AreCounts counts (pieces_of cells)
  pub kept : free ≡ free_units (pieces_of cells)
