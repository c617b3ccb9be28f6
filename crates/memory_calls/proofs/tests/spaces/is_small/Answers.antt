use Rattle.std.proofs.Common.{◌<◌, arith}
use Rattle.sizes.specs.declared.TheConstants.{PAGE_END}
use Rattle.overlay_pages.specs.State.{books}
use Rattle.overlay_memory.specs.Joined.{page_low}
use Rattle.overlay_memory.specs.PageLaws.{own_there}
use Rattle.overlay_memory.specs.View.{state_of}
use Rattle.memory_calls.proofs.Small.{all_small, none_below, one_more_small}
use Rattle.memory_calls.proofs.tests.spaces.is_small.Goals as goal

pub looking-init : goal.looking-init
looking-init c = none_below (books (state_of c.args.memory.now)) c.args.space

pub lines_of-requires : goal.lines_of-requires
lines_of-requires c = record { there = own_there (state_of c.args.memory.now) c.args.space c.in-Some.page c.in-Some.ensures.next.1 }

pub overflow_add-from : goal.overflow_add-from
overflow_add-from c =
    let low : c.in-Some.page < PAGE_END = page_low c.args.memory.now.pages c.in-Some.ensures.joined c.args.space c.in-Some.page
    (own_there (state_of c.args.memory.now) c.args.space c.in-Some.page c.in-Some.ensures.next.1) in
    omega (arith, low)

pub looking-preserved : goal.looking-preserved
looking-preserved c =
    one_more_small (state_of c.args.memory.now) c.args.space c.looking.from c.in-Some.page c.len.result c.lines_of.result c.looking.invariant c.in-Some.ensures.next
    c.lines_of.ensures.own c.len.ensures.count (omega (arith, c.if-len-ge32.false))

pub looking-smaller : goal.looking-smaller
looking-smaller c =
    let low : c.in-Some.page < PAGE_END = page_low c.args.memory.now.pages c.in-Some.ensures.joined c.args.space c.in-Some.page
    (own_there (state_of c.args.memory.now) c.args.space c.in-Some.page c.in-Some.ensures.next.1) in
    let ahead = c.in-Some.ensures.next.0 in
    omega (arith, low, ahead)

pub returns : goal.returns
returns c = λ _. all_small (books (state_of c.args.memory.now)) c.args.space c.looking.from c.looking.invariant c.in_default.ensures.next
