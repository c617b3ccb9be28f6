use Rattle.std.proofs.Common.{◌%◌, ap, ◌∙◌, arith}
use Rattle.overlay_mapping_table.proofs.Ends.{end_found, end_more, end_near}
use Rattle.overlay_mapping_table.proofs.shifts.end_from.Goals as goal

pub passing-init : goal.passing-init
passing-init c = (
  c.behind-end.ensures.low,
  λ i low less. c.requires.full i (c.behind-end.ensures.among i low less) (c.behind-end.ensures.inside i low less),
)

pub overflow_add-end : goal.overflow_add-end
overflow_add-end c =
    let near = end_near c.args.slots.now c.requires.sound c.args.place c.passing.end c.passing.invariant.0 c.passing.invariant.1 in
    omega (arith, near, c.requires.near, c.requires.sound.most)

pub pass-end-requires-clause-near : goal.pass-end-requires-clause-near
pass-end-requires-clause-near c =
    let near = end_near c.args.slots.now c.requires.sound c.args.place c.passing.end c.passing.invariant.0 c.passing.invariant.1 in
    omega (arith, near, c.requires.near)

pub passing-smaller : goal.passing-smaller
passing-smaller c =
    let near = end_near c.args.slots.now c.requires.sound c.args.place c.passing.end c.passing.invariant.0 c.passing.invariant.1 in
    omega (arith, near, c.pass-end.ensures.passed.low)

pub passing-preserved : goal.passing-preserved
passing-preserved c =
    end_more c.args.slots.now c.requires.sound c.args.place c.passing.end c.passing.invariant.0 c.passing.invariant.1 c.wrap.result c.pass-end.result
    c.name_at.result (c.wrap.ensures.same ∙ ap (λ n. c.passing.end % n) c.len-n.ensures) c.name_at.ensures c.passing-test.ensures c.pass-end.ensures

pub returns : goal.returns
returns c =
    end_found c.args.slots.now c.requires.sound c.args.place c.passing.end c.passing.invariant.0 c.passing.invariant.1 c.wrap.result
    c.name_at.result (c.wrap.ensures.same ∙ ap (λ n. c.passing.end % n) c.len-n.ensures) c.name_at.ensures c.passing-test.ensures
