use Rattle.segment_store.specs.contracts.store.SegmentStore.{the_view}
use Rattle.segment_store.specs.Laws.{fresh_unit}
use Rattle.segment_store.proofs.Beginning.{frame_taken}
use Rattle.segment_store.proofs.store.SegmentStore.take_frame.Goals as goal

pub returns-clause-frame : goal.returns-clause-frame
returns-clause-frame c =
    let e = c.in-Some.ensures in
    frame_taken _ c.in-Some.block.unit c.in-Some.block.order e.pieces e.some.0 e.taken
    (fresh_unit (the_view c.self.inside) c.self.invariant c.in-Some.block.unit c.in-Some.block.order e.apart)
