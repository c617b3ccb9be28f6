use Rattle.segment_store.specs.Changes.{MovesSegments}
use Rattle.segment_store.proofs.slots.carry.Given as goal

abbrev pub invariant-carrying : goal.invariant-carrying
invariant-carrying l = MovesSegments l.from l.to l.i l.fn.slots l.slots
