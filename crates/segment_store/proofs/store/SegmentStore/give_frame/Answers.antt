use Rattle.std.proofs.Common.{subst, sym, arith}
use Rattle.segment_store.specs.Store.{IsFrame}
use Rattle.segment_store.specs.Laws.{frame_inside}
use Rattle.segment_store.proofs.store.SegmentStore.give_frame.Goals as goal

pub overflow_mul-frame : goal.overflow_mul-frame
overflow_mul-frame c =
    let inside = frame_inside _ c.self.invariant c.args.frame (subst (λ s. IsFrame s c.args.frame) (sym c.self.view_is) c.requires) in
    record { fits = omega (arith, inside, c.self.invariant.pieces.few) }
