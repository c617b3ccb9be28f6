use Rattle.std.proofs.Common.{◌+◌, ◌*◌, subst, sym, arith}
use Rattle.segment_store.specs.Store.{IsFrame, with_line_at}
use Rattle.segment_store.specs.contracts.store.SegmentStore.{the_view}
use Rattle.segment_store.specs.Kept.{IsStore}
use Rattle.segment_store.specs.Laws.{frame_inside, frame_set_store}
use Rattle.segment_store.proofs.store.SegmentStore.frame_line_mut.Goals as goal

pub overflow_mul-frame : goal.overflow_mul-frame
overflow_mul-frame c =
    let inside = frame_inside _ c.self.invariant c.args.frame (subst (λ s. IsFrame s c.args.frame) (sym c.self.view_is) c.requires.frame) in
    record { fits = omega (arith, inside, c.self.invariant.pieces.few) }

pub overflow_add-frame : goal.overflow_add-frame
overflow_add-frame c =
    let inside = frame_inside _ c.self.invariant c.args.frame (subst (λ s. IsFrame s c.args.frame) (sym c.self.view_is) c.requires.frame) in
    record { fits = omega (arith, inside, c.self.invariant.pieces.few, c.from.ensures, c.requires.line) }

pub line_mut-requires : goal.line_mut-requires
line_mut-requires c =
    let inside = frame_inside _ c.self.invariant c.args.frame (subst (λ s. IsFrame s c.args.frame) (sym c.self.view_is) c.requires.frame) in
    record { there = omega (arith, inside, c.self.invariant.lines, c.from.ensures, c.requires.line) }

pub invariant_of-self-lent : goal.invariant_of-self-lent
invariant_of-self-lent c w =
    subst (λ line. IsStore (with_line_at (the_view c.self.inside) (64 * c.args.frame + line) w)) (sym c.from.ensures)
    (frame_set_store (the_view c.self.inside) c.self.invariant c.args.frame (subst (λ s. IsFrame s c.args.frame) (sym c.self.view_is) c.requires.frame) c.args.line c.requires.line w)
