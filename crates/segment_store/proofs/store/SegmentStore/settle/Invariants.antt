use Rattle.std.proofs.Common.{◌≡◌, ◌+◌}
use Rattle.segment_store.specs.Changes.{moved_lines}
use Rattle.segment_store.proofs.Settling.{IsSettling}
use Rattle.segment_store.proofs.store.SegmentStore.settle.Given as goal

abbrev pub invariant-settling : goal.invariant-settling
invariant-settling g l = IsSettling l.fn.self l.self l.moves.items l.order × (l.steps ≡ l.fn.steps + moved_lines l.moves.items)
