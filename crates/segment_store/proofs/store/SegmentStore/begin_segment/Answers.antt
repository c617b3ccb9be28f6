use Rattle.std.proofs.Common.{[], Some, set, subst, sym, ap₂, ◌∙◌}
use Rattle.overlay_bits.specs.Laws.{are_none}
use Rattle.segment_store.specs.contracts.store.SegmentStore.{the_view}
use Rattle.segment_store.specs.Changes.{BeginsSegment}
use Rattle.segment_store.specs.Store.{Store}
use Rattle.segment_store.proofs.Beginning.{began, begun_lines}
use Rattle.segment_store.proofs.store.SegmentStore.begin_segment.Goals as goal

abbrev after : goal.After-put → Store
after c = the_view record { region = c.begin.new.region; map = c.take.new.self; slots = c.put.new.slots }

has : (c : goal.After-put) → BeginsSegment (the_view c.self.inside) (after c) c.args.owner c.args.order [] c.in-Some.block
has c =
    let e = c.in-Some.ensures in
    let lines = c.begin.ensures.begins in
    began (the_view c.self.inside) (after c) c.args.owner c.args.order [] c.in-Some.block c.self.invariant e.pieces e.some e.taken e.others e.only e.units e.free e.apart e.settled
    (c.put.ensures ∙ ap₂ (λ k bits. set c.self.inside.slots c.in-Some.block.unit (Some (record { owner = c.args.owner; order = k; bits = bits }))) (sym e.some.0) c.empty-bits.ensures)
    (begun_lines c.self.inside.region c.begin.new.region c.in-Some.block lines) are_none lines.pointers

pub invariant_of-self : goal.invariant_of-self
invariant_of-self c = (has c).store

pub returns-clause-begins : goal.returns-clause-begins
returns-clause-begins c = subst (λ s. BeginsSegment s (after c) c.args.owner c.args.order [] c.in-Some.block) c.self.view_is (has c)
