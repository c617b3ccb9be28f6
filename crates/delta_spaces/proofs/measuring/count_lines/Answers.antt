use Rattle.std.proofs.Common.{◌+◌, sym, subst, arith}
use Rattle.overlay_pages.specs.State.{memory_of}
use Rattle.overlay_memory.specs.View.{state_of}
use Rattle.overlay_memory.specs.Joined.{page_low}
use Rattle.delta_spaces.proofs.Walking.{IsMeasuring, measuring_all, measuring_few, measuring_more, measuring_none, measuring_past, measuring_zeros}
use Rattle.delta_spaces.proofs.measuring.count_lines.Goals as goal

pub counting-init : goal.counting-init
counting-init c = measuring_none (memory_of (state_of c.args.mem.now) c.args.saved) (memory_of (state_of c.args.mem.now) c.args.base)

pub differing-requires-clause-low : goal.differing-requires-clause-low
differing-requires-clause-low c = page_low c.args.mem.now.pages c.has_space-here.ensures.joined c.args.saved c.in-Some.page c.in-Some.ensures.1

pub overflow_add-at : goal.overflow_add-at
overflow_add-at c =
    let low = page_low c.args.mem.now.pages c.has_space-here.ensures.joined c.args.saved c.in-Some.page c.in-Some.ensures.1 in omega (arith, low)

pub overflow_add-lines : goal.overflow_add-lines
overflow_add-lines c =
    let low = page_low c.args.mem.now.pages c.has_space-here.ensures.joined c.args.saved c.in-Some.page c.in-Some.ensures.1 in
    let few = c.counting.invariant.few in
    let so_far = c.counting.invariant.low in
    let most = c.len.ensures.are.few in
    omega (arith, few, so_far, most, c.len.ensures.count, c.from-lines.ensures)

pub counting-smaller : goal.counting-smaller
counting-smaller c =
    let low = page_low c.args.mem.now.pages c.has_space-here.ensures.joined c.args.saved c.in-Some.page c.in-Some.ensures.1 in
    let ahead = c.in-Some.ensures.0 in omega (arith, low, ahead)

pub counting-smaller-then-zeros-eq0 : goal.counting-smaller-then-zeros-eq0
counting-smaller-then-zeros-eq0 c =
    let low = page_low c.args.mem.now.pages c.has_space-here.ensures.joined c.args.saved c.in-Some.page c.in-Some.ensures.1 in
    let ahead = c.in-Some.ensures.0 in omega (arith, low, ahead)

pub counting-preserved-then-zeros-eq0 : goal.counting-preserved-then-zeros-eq0
counting-preserved-then-zeros-eq0 c =
    let low = page_low c.args.mem.now.pages c.has_space-here.ensures.joined c.args.saved c.in-Some.page c.in-Some.ensures.1 in
    measuring_more (state_of c.args.mem.now) c.args.saved c.counting.at c.in-Some.page (memory_of (state_of c.args.mem.now) c.args.base) c.counting.lines _ c.len.result c.differing.result
    c.in-Some.ensures low c.counting.invariant c.differing.ensures.lines c.len.ensures.count (omega (arith, c.len.ensures.count, c.len.ensures.are.few)) (omega (arith, c.from-lines.ensures))

pub counting-preserved : goal.counting-preserved
counting-preserved c =
    let low = page_low c.args.mem.now.pages c.has_space-here.ensures.joined c.args.saved c.in-Some.page c.in-Some.ensures.1 in
    subst (λ n. IsMeasuring (memory_of (state_of c.args.mem.now) c.args.saved) (memory_of (state_of c.args.mem.now) c.args.base) c.counting.lines (c.in-Some.page + n)) (sym c.from.ensures)
    (measuring_zeros c.args.mem.now.pages c.args.saved c.args.base c.in-Some.page c.counting.lines c.zeros_of_both-zeros.result c.zeros_of_both-zeros.ensures.zeros
    c.zeros_of_both-zeros.ensures.base_zeros (c.zeros_of_both-zeros.ensures.low (omega (arith, c.if-zeros-eq0.false)))
    (measuring_past (state_of c.args.mem.now) c.args.saved c.counting.at c.in-Some.page (memory_of (state_of c.args.mem.now) c.args.base) c.counting.lines c.in-Some.ensures low
    c.counting.invariant))

pub returns-clause-count : goal.returns-clause-count
returns-clause-count c =
    measuring_all (state_of c.args.mem.now) c.args.saved c.counting.at (memory_of (state_of c.args.mem.now) c.args.base) c.counting.lines c.counting.invariant c.in_default.ensures

pub returns-clause-few : goal.returns-clause-few
returns-clause-few c =
    measuring_few (state_of c.args.mem.now) c.args.saved c.counting.at (memory_of (state_of c.args.mem.now) c.args.base) c.counting.lines c.counting.invariant c.in_default.ensures
