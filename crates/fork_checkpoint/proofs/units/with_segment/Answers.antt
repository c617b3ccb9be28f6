use Rattle.std.proofs.Common.{arith}
use Rattle.ledger.specs.ClassLaws.{class_most}
use Rattle.overlay_memory.specs.View.{state_of}
use Rattle.overlay_memory.specs.CountLaws.{class_is}
use Rattle.overlay_memory.specs.Joined.{limit_few, page_low}
use Rattle.fork_checkpoint.proofs.units.with_segment.Goals as goal

pub overflow_add-result : goal.overflow_add-result
overflow_add-result c =
    let low = page_low c.args.mem.now.pages c.lines_of.ensures.joined c.args.space c.args.page c.requires.there in
    let few = limit_few c.args.mem.now.pages c.lines_of.ensures.joined in
    let most = class_most c.len.result in
    omega (arith, c.class_of.ensures)

pub returns-clause-sum : goal.returns-clause-sum
returns-clause-sum c =
    let same = class_is (state_of c.args.mem.now) c.args.space c.args.page c.lines_of.result c.len.result c.lines_of.ensures.own c.len.ensures.count in
    omega (arith, same, c.class_of.ensures)

pub returns-clause-low : goal.returns-clause-low
returns-clause-low c = page_low c.args.mem.now.pages c.lines_of.ensures.joined c.args.space c.args.page c.requires.there
