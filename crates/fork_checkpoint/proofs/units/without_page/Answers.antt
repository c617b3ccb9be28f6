use Rattle.std.proofs.Common.{sym, ◌∙◌}
use Rattle.overlay_memory.specs.View.{state_of}
use Rattle.overlay_memory.specs.Joined.{page_low}
use Rattle.fork_checkpoint.proofs.Leaving.{enough_for_frame, enough_for_segment, sum_alone, sum_shared}
use Rattle.fork_checkpoint.proofs.units.without_page.Goals as goal

pub overflow_sub-left : goal.overflow_sub-left
overflow_sub-left c =
    enough_for_segment (state_of c.args.mem.now) c.args.space c.args.page c.args.units c.lines_of.result c.len.result c.class_of.result c.lines_of.ensures.own c.len.ensures.count
    c.class_of.ensures c.requires.enough

pub overflow_sub-result : goal.overflow_sub-result
overflow_sub-result c =
    enough_for_frame (state_of c.args.mem.now) c.args.space c.args.page c.args.units c.lines_of.result c.len.result c.class_of.result c.lines_of.ensures.own c.len.ensures.count
    c.class_of.ensures c.requires.enough (sym c.is_alone.ensures ∙ c.if-is_alone.true)

pub returns-then-is_alone-clause-sum : goal.returns-then-is_alone-clause-sum
returns-then-is_alone-clause-sum c =
    sum_alone (state_of c.args.mem.now) c.args.space c.args.page c.args.units c.lines_of.result c.len.result c.class_of.result c.lines_of.ensures.own c.len.ensures.count
    c.class_of.ensures c.requires.enough (sym c.is_alone.ensures ∙ c.if-is_alone.true)

pub returns-then-is_alone-clause-low : goal.returns-then-is_alone-clause-low
returns-then-is_alone-clause-low c = page_low c.args.mem.now.pages c.lines_of.ensures.joined c.args.space c.args.page c.requires.there

pub returns-clause-sum : goal.returns-clause-sum
returns-clause-sum c =
    sum_shared (state_of c.args.mem.now) c.args.space c.args.page c.args.units c.lines_of.result c.len.result c.class_of.result c.lines_of.ensures.own c.len.ensures.count
    c.class_of.ensures c.requires.enough (sym c.is_alone.ensures ∙ c.if-is_alone.false)

pub returns-clause-low : goal.returns-clause-low
returns-clause-low c = page_low c.args.mem.now.pages c.lines_of.ensures.joined c.args.space c.args.page c.requires.there
