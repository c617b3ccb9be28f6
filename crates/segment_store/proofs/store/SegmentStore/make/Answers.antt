use Rattle.std.proofs.Common.{◌*◌, sym, ap, subst, ◌∙◌, arith}
use Rattle.line_store.specs.Lines.{with_copied}
use Rattle.unit_map.specs.Changes.{CanMove}
use Rattle.segment_store.specs.Store.{Store}
use Rattle.segment_store.specs.contracts.store.SegmentStore.{the_view}
use Rattle.segment_store.specs.Changes.{KeepsFrames, KeepsScratch, MakesMove, MovesSegments, WholeSegmentsStay}
use Rattle.segment_store.proofs.Carrying.{IsMoved, four_fits, frames_stayed, moved_store, one_fits, others_stayed, scratch_stayed, target_inside, went_along, wholes_stayed}
use Rattle.segment_store.proofs.store.SegmentStore.make.Goals as goal

pub overflow_mul-m-2 : goal.overflow_mul-m-2
overflow_mul-m-2 c =
    let inside = target_inside (the_view c.self.inside) c.self.invariant c.args.m.from c.args.m.to c.args.m.order (subst (λ s. CanMove s.blocks c.args.m.from c.args.m.to c.args.m.order) (sym c.self.view_is) c.requires) in
    record { fits = omega (arith, inside, c.self.invariant.pieces.few) }

pub copy_lines-requires-clause-target : goal.copy_lines-requires-clause-target
copy_lines-requires-clause-target c =
    let inside = target_inside (the_view c.self.inside) c.self.invariant c.args.m.from c.args.m.to c.args.m.order (subst (λ s. CanMove s.blocks c.args.m.from c.args.m.to c.args.m.order) (sym c.self.view_is) c.requires) in
    omega (arith, inside, c.self.invariant.lines, four_fits c.args.m.order c.requires.low)

pub carry-requires-clause-target : goal.carry-requires-clause-target
carry-requires-clause-target c =
    let inside = target_inside (the_view c.self.inside) c.self.invariant c.args.m.from c.args.m.to c.args.m.order (subst (λ s. CanMove s.blocks c.args.m.from c.args.m.to c.args.m.order) (sym c.self.view_is) c.requires) in
    omega (arith, inside, c.self.invariant.units, one_fits c.args.m.order c.requires.low)

abbrev after : goal.After-carry → Store
after c = the_view record { region = c.copy_lines.new.self; map = c.apply.new.map; slots = c.carry.new.slots }

moved : (c : goal.After-carry) → IsMoved (the_view c.self.inside) (after c) c.args.m.from c.args.m.to c.args.m.order
moved c =
    let e = c.apply.ensures in
    let m = c.args.m in
    record {
      is = c.self.invariant;
      can = subst (λ s. CanMove s.blocks m.from m.to m.order) (sym c.self.view_is) c.requires;
      relocates = e.relocates;
      inside = e.inside;
      outside = e.outside;
      pieces = e.pieces;
      units = e.units;
      within = e.within;
      apart = e.apart;
      lines = c.copy_lines.ensures.copied ∙ ap (λ n. with_copied c.self.inside.region (4 * m.from) (4 * m.to) n) (four_fits m.order c.requires.low);
      size = c.copy_lines.ensures.count;
      segments = subst (λ n. MovesSegments m.from m.to n c.self.inside.slots c.carry.new.slots) (one_fits m.order c.requires.low) c.carry.ensures;
    }

pub invariant_of-self : goal.invariant_of-self
invariant_of-self c = moved_store _ _ _ _ _ (moved c)

pub returns-clause-moves : goal.returns-clause-moves
returns-clause-moves c =
    let m = moved c in
    subst (λ s. MakesMove s (after c) c.args.m) c.self.view_is (record {
      blocks = m.relocates;
      lines = m.lines;
      segments = m.segments;
      along = went_along _ _ _ _ _ m;
      others = others_stayed _ _ _ _ _ m;
      fewer = c.apply.ensures.fewer;
    })

pub returns-clause-whole : goal.returns-clause-whole
returns-clause-whole c = subst (λ s. WholeSegmentsStay s (after c)) c.self.view_is (wholes_stayed _ _ _ _ _ (moved c))

pub returns-clause-frames : goal.returns-clause-frames
returns-clause-frames c = subst (λ s. KeepsFrames s (after c)) c.self.view_is (frames_stayed _ _ _ _ _ (moved c))

pub returns-clause-scratch : goal.returns-clause-scratch
returns-clause-scratch c = subst (λ s. KeepsScratch s (after c)) c.self.view_is (scratch_stayed _ _ _ _ _ (moved c))

pub returns-clause-store : goal.returns-clause-store
returns-clause-store c = moved_store _ _ _ _ _ (moved c)
