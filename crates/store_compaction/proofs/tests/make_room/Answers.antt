use Rattle.std.proofs.Common.{arith}
use Rattle.std.proofs.lemmas.Nat.{pow_pos}
use Rattle.unit_map.specs.Laws.{blocks_le, free_le}
use Rattle.store_compaction.proofs.Packing.{some_free}
use Rattle.store_compaction.proofs.tests.make_room.Goals as goal

pub overflow_add-moves : goal.overflow_add-moves
overflow_add-moves c =
    omega (arith, c.making.invariant.1, c.making.invariant.2, blocks_le c.args.map.now, free_le c.making.map, c.room_for.ensures.pieces.few)

pub returns-clause-few : goal.returns-clause-few
returns-clause-few c = omega (arith, c.making.invariant.2, some_free c.making.map (omega (arith, c.making.invariant.0, pow_pos c.args.order)))
