use Rattle.std.proofs.Common.{◌+◌, ◌-◌, length, set, ap, ◌∙◌, arith}
use Rattle.line_store.specs.Lines.{line_of}
use Rattle.segment_store.proofs.Laying.{IsNextLaid, all_laid, next_laid, none_laid, one_laid, reserved}
use Rattle.segment_store.proofs.places.lay.Goals as goal
use Rattle.segment_store.proofs.places.lay.Goals.{In-Some}

pub laying-init : goal.laying-init
laying-init c = none_laid (length c.args.region.now - 64) c.args.block c.args.bits _ c.args.region.now (c.into_iter-line-iterator.ensures.into_iter_gives ∙ c.iter-line-items.ensures.lines) c.requires.empty

next : (c : In-Some) → IsNextLaid c.args.block c.laying.yielded c.in-Some.line c.laying.region
next c = next_laid (length c.args.region.now - 64) c.args.block c.args.bits c.laying.yielded c.in-Some.line c.next.new.self c.args.region.now c.laying.region c.iter-line-items.ensures.are c.requires.block c.requires.room _ c.in-Some.ensures.steps c.laying.invariant

pub reserve-at-requires-clause-line : goal.reserve-at-requires-clause-line
reserve-at-requires-clause-line c = (next (goal.at.reserve-at-requires-clause-line c).In-Some).low

pub reserve-at-requires-clause-block : goal.reserve-at-requires-clause-block
reserve-at-requires-clause-block c = (next (goal.at.reserve-at-requires-clause-block c).In-Some).within

pub reserve-at-requires-clause-free : goal.reserve-at-requires-clause-free
reserve-at-requires-clause-free c = (next (goal.at.reserve-at-requires-clause-free c).In-Some).free

pub lay_line-requires-clause-line : goal.lay_line-requires-clause-line
lay_line-requires-clause-line c = (next (goal.at.lay_line-requires-clause-line c).In-Some).low

pub lay_line-requires-clause-there : goal.lay_line-requires-clause-there
lay_line-requires-clause-there c =
    let n = next (goal.at.lay_line-requires-clause-there c).In-Some in
    let r = reserved c.args.block c.laying.yielded c.in-Some.line c.laying.region c.reserve-at.new.region c.laying.invariant.laid.pointers n c.reserve-at.ensures.reserves in
    omega (arith, r.to, n.within.inside, c.reserve-at.ensures.place, c.reserve-at.ensures.reserves.size)

pub laying-preserved : goal.laying-preserved
laying-preserved c =
    let mid = c.reserve-at.new.region in
    one_laid (length c.args.region.now - 64) c.args.block c.args.bits c.laying.yielded c.in-Some.line c.next.new.self c.args.region.now c.laying.region mid c.lay_line.new.self c.reserve-at.result
    c.iter-line-items.ensures.are c.requires.block c.requires.room (omega (arith, c.requires.block.inside)) _ c.in-Some.ensures.steps c.laying.invariant c.reserve-at.ensures.reserves c.reserve-at.ensures.place
    (c.lay_line.ensures ∙ ap (λ k. set mid c.reserve-at.result (line_of mid (k - 64 + c.in-Some.line))) (c.reserve-at.ensures.reserves.size ∙ c.laying.invariant.laid.size))

pub returns : goal.returns
returns c = record { are = c.iter-line-items.ensures.are; lays = all_laid _ _ _ _ _ _ _ c.laying.invariant c.in-None.ensures.steps.0 }
