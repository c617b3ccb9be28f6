use Rattle.std.proofs.Common.{◌+◌, ◌-◌, ◌<◌, length, set, ap₂, ◌∙◌, arith}
use Rattle.line_store.specs.Lines.{line_of}
use Rattle.segment_store.proofs.Composing.{all_over, next_over, none_over, one_over}
use Rattle.segment_store.proofs.places.lay_over.Goals as goal
use Rattle.segment_store.proofs.places.lay_over.Goals.{In-Some}

pub laying-init : goal.laying-init
laying-init c = none_over (length c.args.region.now - 64) c.args.first c.args.bits _ c.args.region.now (c.into_iter-line-iterator.ensures.into_iter_gives ∙ c.iter-line-items.ensures.lines)

low : (c : In-Some) → c.in-Some.line < 64
low c = next_over (length c.args.region.now - 64) c.args.first c.args.bits c.laying.yielded c.in-Some.line c.next.new.self c.args.region.now c.laying.region c.iter-line-items.ensures.are _ c.in-Some.ensures.steps c.laying.invariant

pub overflow_add-first : goal.overflow_add-first
overflow_add-first c = record { fits = omega (arith, low (goal.at.overflow_add-first c).In-Some, c.from.ensures, c.requires.inside, c.requires.few) }

pub lay_line-requires : goal.lay_line-requires
lay_line-requires c =
    let less = low (goal.at.lay_line-requires c).In-Some in
    record { line = less; there = omega (arith, less, c.from.ensures, c.requires.inside, c.laying.invariant.laid.size) }

pub laying-preserved : goal.laying-preserved
laying-preserved c =
    let mid = c.laying.region in
    one_over (length c.args.region.now - 64) c.args.first c.args.bits c.laying.yielded c.in-Some.line c.next.new.self c.args.region.now mid c.lay_line.new.self
    c.iter-line-items.ensures.are (omega (arith, c.requires.inside)) (omega (arith, c.requires.inside)) _ c.in-Some.ensures.steps c.laying.invariant
    (c.lay_line.ensures ∙ ap₂ (λ n k. set mid (c.args.first + n) (line_of mid (k - 64 + c.in-Some.line))) c.from.ensures c.laying.invariant.laid.size)

pub returns : goal.returns
returns c = all_over _ _ _ _ _ _ _ c.laying.invariant c.in-None.ensures.steps.0
