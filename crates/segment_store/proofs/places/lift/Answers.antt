use Rattle.std.proofs.Common.{◌≡◌, ◌+◌, ◌-◌, ◌*◌, cond, nat_eq, inr, length, set, sym, ap, ◌∙◌, arith, pow_pos}
use Rattle.line_store.specs.Lines.{line_of}
use Rattle.segment_store.specs.Pointers.{slot_of}
use Rattle.segment_store.specs.Store.{place_in}
use Rattle.segment_store.proofs.Lifting.{IsNextLifted, all_lifted, next_lifted, none_lifted, one_lifted}
use Rattle.segment_store.proofs.places.lift.Goals as goal
use Rattle.segment_store.proofs.places.lift.Goals.{After-place_by-at, In-Some}

pub lifting-init : goal.lifting-init
lifting-init c = none_lifted (length c.args.region.now - 64) c.args.block c.args.bits _ c.args.region.now (c.into_iter-line-iterator.ensures.into_iter_gives ∙ c.iter-line-items.ensures.lines)

next : (c : In-Some) → IsNextLifted c.args.block c.in-Some.line c.args.region.now c.lifting.region
next c = next_lifted (length c.args.region.now - 64) c.args.block c.args.bits c.lifting.yielded c.in-Some.line c.next.new.self c.args.region.now c.lifting.region c.iter-line-items.ensures.are c.requires.block (inr (omega (arith, c.requires.block.inside))) c.requires.lie _ c.in-Some.ensures.steps c.lifting.invariant

pub place_by-at-requires-clause-line : goal.place_by-at-requires-clause-line
place_by-at-requires-clause-line c = (next (goal.at.place_by-at-requires-clause-line c).In-Some).low

pub line-requires : goal.line-requires
line-requires c = omega (arith, c.requires.block.inside, pow_pos c.args.block.order)

pub place_by-at-requires-clause-low : goal.place_by-at-requires-clause-low
place_by-at-requires-clause-low c = omega (arith, c.requires.block.inside, c.requires.block.few)

-- the place, by the line of pointers, which stays
at_is : (c : After-place_by-at) → IsNextLifted c.args.block c.in-Some.line c.args.region.now c.lifting.region → c.place_by-at.result ≡ place_in c.lifting.region c.args.block.unit c.args.block.order c.in-Some.line
at_is c n =
    c.place_by-at.ensures ∙ ap (λ p. 4 * c.args.block.unit + cond (nat_eq c.args.block.order 4) c.in-Some.line (slot_of p c.in-Some.line))
    (c.line.ensures.value ∙ sym n.pointers)

pub lift_line-requires-clause-there : goal.lift_line-requires-clause-there
lift_line-requires-clause-there c =
    let n = next (goal.at.lift_line-requires-clause-there c).In-Some in
    omega (arith, n.below, n.within.inside, at_is (goal.at.lift_line-requires-clause-there c).After-place_by-at n)

pub lift_line-requires-clause-line : goal.lift_line-requires-clause-line
lift_line-requires-clause-line c = (next (goal.at.lift_line-requires-clause-line c).In-Some).low

pub lifting-preserved : goal.lifting-preserved
lifting-preserved c =
    one_lifted (length c.args.region.now - 64) c.args.block c.args.bits c.lifting.yielded c.in-Some.line c.next.new.self c.args.region.now c.lifting.region c.lift_line.new.self c.place_by-at.result
    c.iter-line-items.ensures.are c.requires.block (inr (omega (arith, c.requires.block.inside))) (omega (arith, c.requires.block.inside)) c.requires.lie _ c.in-Some.ensures.steps c.lifting.invariant (at_is (goal.at.lifting-preserved c).After-place_by-at (next (goal.at.lifting-preserved c).In-Some))
    (c.lift_line.ensures ∙ ap (λ k. set c.lifting.region (k - 64 + c.in-Some.line) (line_of c.lifting.region c.place_by-at.result)) c.lifting.invariant.lifted.size)

pub returns : goal.returns
returns c = record { are = c.iter-line-items.ensures.are; lifts = all_lifted _ _ _ _ _ _ _ c.lifting.invariant c.in-None.ensures.steps.0 }
