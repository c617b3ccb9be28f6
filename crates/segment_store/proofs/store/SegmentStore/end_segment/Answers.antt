use Rattle.std.proofs.Common.{subst, sym, refl, arith}
use Rattle.unit_map.specs.Pieces.{AreSettled}
use Rattle.unit_map.specs.Settled.{lower_settled}
use Rattle.segment_store.specs.Store.{IsSegment}
use Rattle.segment_store.specs.contracts.store.SegmentStore.{the_view}
use Rattle.segment_store.proofs.Beginning.{ended}
use Rattle.segment_store.proofs.store.SegmentStore.end_segment.Goals as goal

pub invariant_of-self : goal.invariant_of-self
invariant_of-self c =
    let there = subst (λ s. IsSegment s c.args.block) (sym c.self.view_is) c.requires in
    (ended (the_view c.self.inside) _ c.args.block c.self.invariant there c.give.ensures.pieces c.give.ensures.units c.give.ensures.others refl c.put.ensures).store

pub returns-clause-store : goal.returns-clause-store
returns-clause-store c = invariant_of-self c

pub returns-clause-settles : goal.returns-clause-settles
returns-clause-settles c settled = lower_settled _ 0 c.args.block.order (omega arith) (c.give.ensures.settled (subst (λ s. AreSettled s.blocks) (sym c.self.view_is) settled))
