use Rattle.overlay_pages.proofs.Common.{◌∙◌, sym, ◌≤◌, length, subst}
use Rattle.overlay_pages.proofs.Stores.{capacity_of}
use Rattle.overlay_pages.proofs.Views.{by_rank}
use Rattle.overlay_pages.proofs.GivenLines.{all_filled, fill_absent, fill_fits, fill_fits_kept, fill_given, fill_low, fill_there, none_filled, one_filled}
use Rattle.overlay_pages.proofs.rebasing.begin_filled.Goals as goal

pub filling-init : goal.filling-init
filling-init c = none_filled c.args.store.now c.begin_segment-block.new.self c.args.owner c.args.order c.begin_segment-block.result c.args.bits _ (by_rank c.args.bits c.args.kept.now)
    c.iter-line-items.ensures.are (c.into_iter-line-iterator.ensures.into_iter_gives ∙ c.iter-line-items.ensures.lines) c.begin_segment-block.ensures.begins

pub bounds-kept-at : goal.bounds-kept-at
bounds-kept-at c =
    fill_fits_kept c.args.store.now c.filling.store c.args.owner c.begin_segment-block.result c.args.bits _ c.filling.at (by_rank c.args.bits c.args.kept.now) c.filling.invariant c.in-Some.line c.next.new.self c.in-Some.ensures.steps 31 c.requires.few

pub insert-requires-clause-there : goal.insert-requires-clause-there
insert-requires-clause-there c =
    fill_there c.args.store.now c.filling.store c.args.owner c.begin_segment-block.result c.args.bits _ c.filling.at (by_rank c.args.bits c.args.kept.now) c.filling.invariant c.in-Some.line c.next.new.self c.in-Some.ensures.steps

pub insert-requires-clause-line : goal.insert-requires-clause-line
insert-requires-clause-line c =
    fill_low c.args.store.now c.filling.store c.args.owner c.begin_segment-block.result c.args.bits _ c.filling.at (by_rank c.args.bits c.args.kept.now) c.filling.invariant c.in-Some.line c.next.new.self c.in-Some.ensures.steps

pub insert-requires-clause-absent : goal.insert-requires-clause-absent
insert-requires-clause-absent c =
    fill_absent c.args.store.now c.filling.store c.args.owner c.begin_segment-block.result c.args.bits _ c.filling.at (by_rank c.args.bits c.args.kept.now) c.filling.invariant c.in-Some.line c.next.new.self c.in-Some.ensures.steps

pub insert-requires-clause-room : goal.insert-requires-clause-room
insert-requires-clause-room c =
    fill_fits c.args.store.now c.filling.store c.args.owner c.begin_segment-block.result c.args.bits _ c.filling.at (by_rank c.args.bits c.args.kept.now) c.filling.invariant c.in-Some.line c.next.new.self c.in-Some.ensures.steps
    (subst (λ k. length c.args.bits ≤ capacity_of k) (sym c.begin_segment-block.ensures.begins.asked.0) c.requires.fits)

pub filling-preserved : goal.filling-preserved
filling-preserved c =
    let i = c.insert.ensures in
    one_filled c.args.store.now c.filling.store c.args.owner c.begin_segment-block.result c.args.bits _ c.filling.at (by_rank c.args.bits c.args.kept.now) c.filling.invariant c.in-Some.line c.next.new.self c.in-Some.ensures.steps
    c.insert.new.self _
    (fill_given c.args.store.now c.filling.store c.args.owner c.begin_segment-block.result c.args.bits _ c.filling.at (by_rank c.args.bits c.args.kept.now) c.filling.invariant
    c.in-Some.line c.next.new.self c.in-Some.ensures.steps c.args.kept.now) i.inserts i.lines i.segments i.frames i.store

pub returns-clause-laid : goal.returns-clause-laid
returns-clause-laid c =
    all_filled c.args.store.now c.filling.store c.args.owner c.begin_segment-block.result c.args.bits _ c.filling.at (by_rank c.args.bits c.args.kept.now) c.filling.invariant c.in-None.ensures.steps.0
