use Rattle.std.proofs.Common.{◌≡◌, ◌+◌, ◌*◌, cond, nat_eq, set, sym, ap, ◌∙◌, arith, pow_pos}
use Rattle.line_store.specs.Lines.{line_of}
use Rattle.segment_store.specs.Pointers.{slot_of}
use Rattle.segment_store.specs.Store.{place_in}
use Rattle.segment_store.proofs.Lifting.{IsNextLifted, all_lifted, is_other, next_lifted, none_lifted, one_lifted}
use Rattle.segment_store.proofs.places.lay_in_page.Goals as goal
use Rattle.segment_store.proofs.places.lay_in_page.Goals.{After-place_by-at, In-Some}

pub line-requires : goal.line-requires
line-requires c = omega (arith, c.requires.block.inside, pow_pos c.args.block.order)

pub laying-init : goal.laying-init
laying-init c = none_lifted c.args.first c.args.block c.args.bits _ c.args.region.now (c.into_iter-line-iterator.ensures.into_iter_gives ∙ c.iter-line-items.ensures.lines)

next : (c : In-Some) → IsNextLifted c.args.block c.in-Some.line c.args.region.now c.laying.region
next c = next_lifted c.args.first c.args.block c.args.bits c.laying.yielded c.in-Some.line c.next.new.self c.args.region.now c.laying.region c.iter-line-items.ensures.are c.requires.block c.requires.apart c.requires.lie _ c.in-Some.ensures.steps c.laying.invariant

pub place_by-at-requires-clause-line : goal.place_by-at-requires-clause-line
place_by-at-requires-clause-line c = (next (goal.at.place_by-at-requires-clause-line c).In-Some).low

pub place_by-at-requires-clause-low : goal.place_by-at-requires-clause-low
place_by-at-requires-clause-low c = omega (arith, c.requires.block.inside, c.requires.block.few)

-- the place, by the line of pointers, which stays
at_is : (c : After-place_by-at) → IsNextLifted c.args.block c.in-Some.line c.args.region.now c.laying.region → c.place_by-at.result ≡ place_in c.laying.region c.args.block.unit c.args.block.order c.in-Some.line
at_is c n =
    c.place_by-at.ensures ∙ ap (λ p. 4 * c.args.block.unit + cond (nat_eq c.args.block.order 4) c.in-Some.line (slot_of p c.in-Some.line))
    (c.line.ensures.value ∙ sym n.pointers)

pub overflow_add-first : goal.overflow_add-first
overflow_add-first c = record { fits = omega (arith, (next (goal.at.overflow_add-first c).In-Some).low, c.from.ensures, c.requires.inside, c.requires.block.few) }

pub copy_line-requires-clause-source : goal.copy_line-requires-clause-source
copy_line-requires-clause-source c =
    let n = next (goal.at.copy_line-requires-clause-source c).In-Some in
    omega (arith, n.below, n.within.inside, at_is (goal.at.copy_line-requires-clause-source c).After-place_by-at n)

pub copy_line-requires-clause-target : goal.copy_line-requires-clause-target
copy_line-requires-clause-target c =
    omega (arith, (next (goal.at.copy_line-requires-clause-target c).In-Some).low, c.from.ensures, c.requires.inside, c.laying.invariant.lifted.size)

pub copy_line-requires-clause-other : goal.copy_line-requires-clause-other
copy_line-requires-clause-other c =
    let at = goal.at.copy_line-requires-clause-other c in
    let n = next at.In-Some in
    is_other c.args.block c.args.first c.place_by-at.result (c.args.first + c.from.result) c.requires.apart (omega (arith, n.above, at_is at.After-place_by-at n)) (omega (arith, n.below, at_is at.After-place_by-at n)) (omega arith) (omega (arith, n.low, c.from.ensures))

pub laying-preserved : goal.laying-preserved
laying-preserved c =
    one_lifted c.args.first c.args.block c.args.bits c.laying.yielded c.in-Some.line c.next.new.self c.args.region.now c.laying.region c.copy_line.new.self c.place_by-at.result
    c.iter-line-items.ensures.are c.requires.block c.requires.apart (omega (arith, c.requires.inside)) c.requires.lie _ c.in-Some.ensures.steps c.laying.invariant (at_is (goal.at.laying-preserved c).After-place_by-at (next (goal.at.laying-preserved c).In-Some))
    (c.copy_line.ensures ∙ ap (λ n. set c.laying.region (c.args.first + n) (line_of c.laying.region c.place_by-at.result)) c.from.ensures)

pub returns : goal.returns
returns c = record { are = c.iter-line-items.ensures.are; lifts = all_lifted _ _ _ _ _ _ _ c.laying.invariant c.in-None.ensures.steps.0 }
