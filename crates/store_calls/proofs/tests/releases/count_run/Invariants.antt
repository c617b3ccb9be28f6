use Rattle.unit_map.specs.Pieces.{AreSettled}
use Rattle.store_calls.proofs.tests.releases.count_run.Given as goal

abbrev pub invariant-playing : goal.invariant-playing
invariant-playing g l = AreSettled l.replay.store.blocks
