use Rattle.std.proofs.Common.{◌≡◌, subst, sym, ap, refl, ◌∙◌}
use Rattle.overlay_bits.specs.Lines.{has_line}
use Rattle.segment_store.specs.Store.{Store, IsSegment, lines_at}
use Rattle.segment_store.specs.contracts.store.SegmentStore.{the_view}
use Rattle.segment_store.specs.Changes.{KeepsFrames, KeepsSegments}
use Rattle.segment_store.specs.Laws.{block_in, lies_at}
use Rattle.segment_store.proofs.Scratch.{HasLiftedWhole, lifted_whole}
use Rattle.segment_store.proofs.store.SegmentStore.lift.Goals as goal

pub lift-requires-clause-block : goal.lift-requires-clause-block
lift-requires-clause-block c = block_in _ c.self.invariant c.args.block (subst (λ s. IsSegment s c.args.block) (sym c.self.view_is) c.requires.there)

pub lift-requires-clause-lie : goal.lift-requires-clause-lie
lift-requires-clause-lie c line has =
    let store = the_view c.self.inside in
    let bits = subst (λ s. lines_at s c.args.block.unit ≡ c.args.bits) (sym c.self.view_is) c.requires.lines in
    lies_at store c.self.invariant c.args.block (subst (λ s. IsSegment s c.args.block) (sym c.self.view_is) c.requires.there) line (ap (λ b. has_line b line) bits ∙ has)

abbrev after : goal.After-lift → Store
after c = the_view record { region = c.lift.new.region; map = c.self.inside.map; slots = c.self.inside.slots }

whole : (c : goal.After-lift) → HasLiftedWhole (the_view c.self.inside) (after c) c.args.block c.args.bits
whole c = lifted_whole (the_view c.self.inside) (after c) c.args.block c.args.bits c.self.invariant c.lift.ensures.are c.lift.ensures.lifts refl refl

pub invariant_of-self : goal.invariant_of-self
invariant_of-self c = (whole c).store

pub returns-clause-segments : goal.returns-clause-segments
returns-clause-segments c = subst (λ s. KeepsSegments s (after c)) c.self.view_is (whole c).segments

pub returns-clause-frames : goal.returns-clause-frames
returns-clause-frames c = subst (λ s. KeepsFrames s (after c)) c.self.view_is (whole c).frames

pub returns-clause-store : goal.returns-clause-store
returns-clause-store c = (whole c).store
