use Rattle.std.proofs.Common.{◌+◌, ◌≤◌, subst}
use Rattle.unit_map.specs.Pieces.{AreSettledBut, count}
use Rattle.unit_map.specs.Changes.{CanMove}
use Rattle.unit_map.specs.Settled.{moves_settled}
use Rattle.segment_store.proofs.store.SegmentStore.settle_order.Goals as goal

pub returns-in-Some-clause-but : goal.returns-in-Some-clause-but
returns-in-Some-clause-but g c =
    let m = c.in-Some.m in
    let pair = c.in-Some.ensures.some in
    subst (λ k. AreSettledBut c.make.new.self.blocks (k + 1)) pair.0
    (moves_settled _ _ m.from m.to m.order c.args.order (subst (λ s. CanMove s.blocks m.from m.to m.order) c.self.view_is pair.1) c.make.ensures.moves.blocks c.requires.but (subst (λ s. 2 ≤ count m.order s.blocks) c.self.view_is pair.2))
