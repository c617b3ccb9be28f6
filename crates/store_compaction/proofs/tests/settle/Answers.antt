use Rattle.std.proofs.Common.{arith}
use Rattle.unit_map.specs.Laws.{blocks_le, free_le}
use Rattle.store_compaction.proofs.tests.settle.Goals as goal

pub overflow_add-moves : goal.overflow_add-moves
overflow_add-moves c =
    omega (arith, c.settling.invariant.0, c.settling.invariant.1, blocks_le c.args.map.now, free_le c.settling.map, c.next_move.ensures.pieces.few)
