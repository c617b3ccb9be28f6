use Rattle.std.proofs.Common.{rules, sym, subst}
use Rattle.unit_map.specs.Pieces.{AreSettled}
use Rattle.unit_map.specs.Settled.{frames_settled}
use Rattle.segment_store.proofs.Making.{new_store}
use Rattle.segment_store.proofs.store.SegmentStore.new.Goals as goal

pub invariant_of-result : goal.invariant_of-result
invariant_of-result c =
    new_store c.args.frames _
    (record { lines = c.in_ok-region.ensures.zero; blocks = c.in_ok-map.ensures.free; segments = c.in_ok-slots.ensures })
    c.in_ok-map.ensures.pieces c.in_ok-region.ensures.count

pub returns-clause-store : goal.returns-clause-store
returns-clause-store c = invariant_of-result c

pub returns-clause-settled : goal.returns-clause-settled
returns-clause-settled c = subst AreSettled (sym c.in_ok-map.ensures.free) (frames_settled 0 c.args.frames)
