use Rattle.std.proofs.Common.{◌≡◌, ◌*◌, [], subst, sym, refl}
use Rattle.line_store.specs.Lines.{line_of}
use Rattle.segment_store.specs.Pointers.{ArePointers, capacity_of}
use Rattle.segment_store.specs.Store.{Store, IsSegment, lines_at}
use Rattle.segment_store.specs.contracts.store.SegmentStore.{the_view}
use Rattle.segment_store.specs.Changes.{KeepsFrames, KeepsOtherSegments, KeepsScratch}
use Rattle.segment_store.specs.Laws.{block_in, pointers_there}
use Rattle.segment_store.proofs.Scratch.{HasLaidWhole, laid_whole}
use Rattle.segment_store.proofs.store.SegmentStore.lay.Goals as goal

pub lay-requires-clause-block : goal.lay-requires-clause-block
lay-requires-clause-block c = block_in _ c.self.invariant c.args.block (subst (λ s. IsSegment s c.args.block) (sym c.self.view_is) c.requires.there)

pub lay-requires-clause-empty : goal.lay-requires-clause-empty
lay-requires-clause-empty c less =
    let store = the_view c.self.inside in
    let none = subst (λ s. lines_at s c.args.block.unit ≡ []) (sym c.self.view_is) c.requires.empty in
    subst (λ b. ArePointers (capacity_of c.args.block.order) b (line_of store.lines (4 * c.args.block.unit))) none
    (pointers_there store c.self.invariant c.args.block (subst (λ s. IsSegment s c.args.block) (sym c.self.view_is) c.requires.there) less)

abbrev after : goal.After-set_lines → Store
after c = the_view record { region = c.lay.new.region; map = c.self.inside.map; slots = c.set_lines.new.slots }

whole : (c : goal.After-set_lines) → HasLaidWhole (the_view c.self.inside) (after c) c.args.block c.args.bits
whole c =
    laid_whole (the_view c.self.inside) (after c) c.args.block c.args.bits c.self.invariant (subst (λ s. IsSegment s c.args.block) (sym c.self.view_is) c.requires.there)
    c.lay.ensures.are c.lay.ensures.lays refl c.set_lines.ensures.set

pub invariant_of-self : goal.invariant_of-self
invariant_of-self c = (whole c).filled.store

pub returns-clause-segments : goal.returns-clause-segments
returns-clause-segments c = subst (λ s. KeepsOtherSegments s c.args.block.unit (after c)) c.self.view_is (whole c).filled.segments

pub returns-clause-frames : goal.returns-clause-frames
returns-clause-frames c = subst (λ s. KeepsFrames s (after c)) c.self.view_is (whole c).filled.frames

pub returns-clause-scratch : goal.returns-clause-scratch
returns-clause-scratch c = subst (λ s. KeepsScratch s (after c)) c.self.view_is (whole c).filled.scratch

pub returns-clause-store : goal.returns-clause-store
returns-clause-store c = (whole c).filled.store
