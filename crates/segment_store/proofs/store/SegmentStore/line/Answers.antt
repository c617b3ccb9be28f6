use Rattle.std.proofs.Common.{◌<◌, sym, subst, arith}
use Rattle.segment_store.specs.Store.{scratch_place}
use Rattle.segment_store.proofs.store.SegmentStore.line.Goals as goal

pub line-requires : goal.line-requires
line-requires c =
    let before = subst (λ s. c.args.at < scratch_place s) (sym c.self.view_is) c.requires.before_scratch in
    record { there = omega (arith, before, c.self.invariant.lines) }
