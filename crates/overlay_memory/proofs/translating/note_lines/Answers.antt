use Rattle.std.proofs.Common.{◌∙◌}
use Rattle.overlay_memory.proofs.Noting.{next_low, noted_all, noted_none, noted_one}
use Rattle.overlay_memory.proofs.translating.note_lines.Goals as goal

pub noting-init : goal.noting-init
noting-init c =
    noted_none c.args.space c.args.page c.args.lines _ c.args.cache.now c.iter-line-items.ensures.are
    (c.into_iter-line-iterator.ensures.into_iter_gives ∙ c.iter-line-items.ensures.lines)

pub set_bit-requires : goal.set_bit-requires
set_bit-requires c =
    next_low c.args.space c.args.page c.args.lines c.noting.yielded _ c.args.cache.now c.noting.cache c.in-Some.line c.next.new.self c.in-Some.ensures.steps c.noting.invariant

pub noting-preserved : goal.noting-preserved
noting-preserved c =
    noted_one c.args.space c.args.page c.args.lines c.noting.yielded _ c.args.cache.now c.noting.cache c.in-Some.line c.next.new.self c.in-Some.ensures.steps c.noting.invariant
    c.set_bit.new.self c.set_bit.ensures.bit

pub returns-clause-noted : goal.returns-clause-noted
returns-clause-noted c =
    noted_all c.args.space c.args.page c.args.lines c.noting.yielded _ c.args.cache.now c.noting.cache c.noting.invariant c.in-None.ensures.steps.0

pub returns-clause-are : goal.returns-clause-are
returns-clause-are c = c.iter-line-items.ensures.are
