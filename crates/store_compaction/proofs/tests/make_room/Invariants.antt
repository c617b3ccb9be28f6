use Rattle.std.proofs.Common.{◌≡◌, ◌+◌, ◌^◌, ◌≤◌}
use Rattle.unit_map.specs.Pieces.{free_blocks, free_units}
use Rattle.store_compaction.proofs.tests.make_room.Given as goal

abbrev pub invariant-making : goal.invariant-making
invariant-making l = (2 ^ l.order ≤ free_units l.map) × (free_units l.map ≡ free_units l.fn.map) × (l.moves + free_blocks l.map ≤ free_blocks l.fn.map)

abbrev pub decreases-making : goal.decreases-making
decreases-making l = free_blocks l.map
