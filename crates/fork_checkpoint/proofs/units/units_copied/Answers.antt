use Rattle.overlay_memory.specs.View.{state_of}
use Rattle.overlay_memory.specs.Joined.{page_low}
use Rattle.overlay_memory.specs.PageLaws.{has_page, own_there}
use Rattle.fork_checkpoint.proofs.Sums.{summed_all, summing_few, summing_more, summing_none}
use Rattle.fork_checkpoint.proofs.units.units_copied.Goals as goal

pub counting-init : goal.counting-init
counting-init c = summing_none (state_of c.args.mem.now) c.args.space c.args.kept c.requires.few

pub with_segment-units-requires-clause-there : goal.with_segment-units-requires-clause-there
with_segment-units-requires-clause-there c = own_there (state_of c.args.mem.now) c.args.space c.in-Some.page c.in-Some.ensures.next.1

pub with_segment-units-requires-clause-few : goal.with_segment-units-requires-clause-few
with_segment-units-requires-clause-few c =
    summing_few (state_of c.args.mem.now) c.args.space c.args.kept c.counting.units c.counting.from c.in-Some.page c.counting.invariant c.in-Some.ensures.next.0

pub counting-preserved : goal.counting-preserved
counting-preserved c =
    let p = has_page (state_of c.args.mem.now) c.args.space c.in-Some.page (own_there (state_of c.args.mem.now) c.args.space c.in-Some.page c.in-Some.ensures.next.1) in
    summing_more (state_of c.args.mem.now) c.args.space c.args.kept c.counting.units c.counting.from c.in-Some.page c.with_segment-units.result p.x c.counting.invariant c.in-Some.ensures.next p.there
    c.with_segment-units.ensures.sum c.with_segment-units.ensures.low

pub returns-clause-sum : goal.returns-clause-sum
returns-clause-sum c =
    summed_all (state_of c.args.mem.now) c.args.space c.args.kept c.counting.units c.counting.from c.counting.invariant
    (page_low c.args.mem.now.pages c.in_default.ensures.joined c.args.space) c.in_default.ensures.next

pub returns-clause-low : goal.returns-clause-low
returns-clause-low c = page_low c.args.mem.now.pages c.in_default.ensures.joined c.args.space
