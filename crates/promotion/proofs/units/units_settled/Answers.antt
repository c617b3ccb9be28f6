use Rattle.overlay_memory.specs.View.{state_of}
use Rattle.overlay_memory.specs.PageLaws.{own_there}
use Rattle.promotion.proofs.Counts.{counted_all, counted_few, counting_more, counting_none, segment_there}
use Rattle.promotion.proofs.units.units_settled.Goals as goal

pub counting-init : goal.counting-init
counting-init c = counting_none (state_of c.args.mem.now) c.args.space c.units-units.result c.units-units.ensures.sum c.units-units.ensures.fits

pub with_settled-units-requires-clause-there : goal.with_settled-units-requires-clause-there
with_settled-units-requires-clause-there c = own_there (state_of c.args.mem.now) c.args.space c.in-Some.page c.in-Some.ensures.next.1

pub with_settled-units-requires-clause-some : goal.with_settled-units-requires-clause-some
with_settled-units-requires-clause-some c =
    segment_there (state_of c.args.mem.now) c.args.space c.counting.units c.counting.from c.in-Some.page c.see_apart.ensures c.counting.invariant c.in-Some.ensures.next

pub with_settled-units-requires-clause-few : goal.with_settled-units-requires-clause-few
with_settled-units-requires-clause-few c =
    counted_few (state_of c.args.mem.now) c.args.space c.counting.units c.counting.from c.in-Some.page c.see_apart.ensures c.counting.invariant c.in-Some.ensures.next

pub counting-preserved : goal.counting-preserved
counting-preserved c =
    counting_more (state_of c.args.mem.now) c.args.space c.counting.units c.counting.from c.in-Some.page c.see_apart.ensures c.counting.invariant c.in-Some.ensures.next
    c.with_settled-units.result c.with_settled-units.ensures.sum c.with_settled-units.ensures.low

pub returns : goal.returns
returns c = counted_all (state_of c.args.mem.now) c.args.space c.counting.units c.counting.from c.counting.invariant c.in_default.ensures.next
