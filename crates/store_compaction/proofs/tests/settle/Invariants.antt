use Rattle.std.proofs.Common.{◌≡◌, ◌+◌, ◌≤◌}
use Rattle.unit_map.specs.Pieces.{free_blocks, free_units}
use Rattle.store_compaction.proofs.tests.settle.Given as goal

abbrev pub invariant-settling : goal.invariant-settling
invariant-settling l = (free_units l.map ≡ free_units l.fn.map) × (l.moves + free_blocks l.map ≤ free_blocks l.fn.map)

abbrev pub decreases-settling : goal.decreases-settling
decreases-settling l = free_blocks l.map
