use Rattle.unit_map.specs.Pieces.{AreSettled}
use Rattle.store_calls.proofs.tests.segments.segments_beside_a_list.Given as goal

abbrev pub invariant-turning : goal.invariant-turning
invariant-turning g l = AreSettled l.store.blocks
