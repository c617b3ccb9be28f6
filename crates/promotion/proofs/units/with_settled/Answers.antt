use Rattle.std.proofs.Common.{◌∙◌, sym, arith}
use Rattle.overlay_memory.specs.View.{state_of}
use Rattle.overlay_memory.specs.Joined.{limit_few, page_low}
use Rattle.promotion.proofs.Counts.{enough_for, sum_alone, sum_bare, sum_shared}
use Rattle.promotion.proofs.units.with_settled.Goals as goal

pub overflow_sub-result : goal.overflow_sub-result
overflow_sub-result c =
    enough_for (state_of c.args.mem.now) c.args.space c.args.page c.args.units c.lines_of.result c.len-own.result c.class_of.result c.lines_of.ensures.own c.len-own.ensures.count
    c.class_of.ensures c.requires.some

pub overflow_add-result : goal.overflow_add-result
overflow_add-result c =
    let low = page_low c.args.mem.now.pages c.lines_of.ensures.joined c.args.space c.args.page c.requires.there in
    let few = limit_few c.args.mem.now.pages c.lines_of.ensures.joined in
    omega arith

pub overflow_sub-result-2 : goal.overflow_sub-result-2
overflow_sub-result-2 c =
    let enough = enough_for (state_of c.args.mem.now) c.args.space c.args.page c.args.units c.lines_of.result c.len-own.result c.class_of-2.result c.lines_of.ensures.own c.len-own.ensures.count
    c.class_of-2.ensures c.requires.some in omega (arith, enough)

pub returns-then-own-eq0-clause-sum : goal.returns-then-own-eq0-clause-sum
returns-then-own-eq0-clause-sum c =
    sum_bare (state_of c.args.mem.now) c.args.space c.args.page c.args.units c.lines_of.result c.len-own.result c.lines_of.ensures.own c.len-own.ensures.count c.if-own-eq0.true

pub returns-then-own-eq0-clause-low : goal.returns-then-own-eq0-clause-low
returns-then-own-eq0-clause-low c = page_low c.args.mem.now.pages c.lines_of.ensures.joined c.args.space c.args.page c.requires.there

pub returns-then-is_alone-clause-sum : goal.returns-then-is_alone-clause-sum
returns-then-is_alone-clause-sum c =
    sum_alone (state_of c.args.mem.now) c.args.space c.args.page c.args.units c.lines_of.result c.len-own.result c.class_of.result c.lines_of.ensures.own c.len-own.ensures.count
    c.class_of.ensures c.requires.some (sym c.is_alone.ensures ∙ c.if-is_alone.true)

pub returns-then-is_alone-clause-low : goal.returns-then-is_alone-clause-low
returns-then-is_alone-clause-low c = page_low c.args.mem.now.pages c.lines_of.ensures.joined c.args.space c.args.page c.requires.there

pub returns-clause-sum : goal.returns-clause-sum
returns-clause-sum c =
    sum_shared (state_of c.args.mem.now) c.args.space c.args.page c.args.units c.lines_of.result c.len-own.result c.class_of-2.result c.lines_of.ensures.own c.len-own.ensures.count
    c.class_of-2.ensures c.requires.some c.if-own-eq0.false (sym c.is_alone.ensures ∙ c.if-is_alone.false)

pub returns-clause-low : goal.returns-clause-low
returns-clause-low c = page_low c.args.mem.now.pages c.lines_of.ensures.joined c.args.space c.args.page c.requires.there
