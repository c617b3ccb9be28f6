use Rattle.std.proofs.Common.{arith}
use Rattle.unit_map.specs.Settled.{too_few}
use Rattle.store_compaction.proofs.Packing.{packs, runs}
use Rattle.store_compaction.proofs.moves.room_for.Goals as goal

pub returns-then-has_room-clause-run : goal.returns-then-has_room-clause-run
returns-then-has_room-clause-run c n later moves = runs c.args.order n c.args.map.now later c.requires.order c.has_room.ensures.pieces c.requires.enough moves

pub returns-in-Some-clause-run : goal.returns-in-Some-clause-run
returns-in-Some-clause-run c n later moves = runs c.args.order n c.args.map.now later c.requires.order c.has_room.ensures.pieces c.requires.enough moves

pub returns-clause-none : goal.returns-clause-none
returns-clause-none c h =
    absurd (too_few c.args.order c.args.map.now c.requires.order c.has_room.ensures.pieces (λ k lt. c.asking.invariant.1 k (omega (arith, c.asking-test.false)) lt) (c.has_room.ensures.full c.if-has_room.false) c.requires.enough)

pub returns-clause-packing : goal.returns-clause-packing
returns-clause-packing c full = packs c.args.order c.args.map.now c.requires.order c.has_room.ensures.pieces c.requires.enough full

pub returns-clause-run : goal.returns-clause-run
returns-clause-run c n later moves = runs c.args.order n c.args.map.now later c.requires.order c.has_room.ensures.pieces c.requires.enough moves
