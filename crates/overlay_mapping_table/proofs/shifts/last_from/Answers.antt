use Rattle.std.proofs.Common.{refl, arith}
use Rattle.overlay_mapping_table.proofs.Ends.{last_found, next_more, next_near}
use Rattle.overlay_mapping_table.proofs.shifts.last_from.Goals as goal

pub is_before-requires-clause-near : goal.is_before-requires-clause-near
is_before-requires-clause-near c =
    let near = next_near c.args.slots.now c.requires.sound c.args.hole c.passing.next c.requires.there c.passing.invariant.0 c.passing.invariant.1 in
    omega (arith, near, c.requires.near)

pub pass-next-requires-clause-near : goal.pass-next-requires-clause-near
pass-next-requires-clause-near c =
    let near = next_near c.args.slots.now c.requires.sound c.args.hole c.passing.next c.requires.there c.passing.invariant.0 c.passing.invariant.1 in
    omega (arith, near, c.requires.near)

pub passing-smaller : goal.passing-smaller
passing-smaller c =
    let near = next_near c.args.slots.now c.requires.sound c.args.hole c.passing.next c.requires.there c.passing.invariant.0 c.passing.invariant.1 in
    let more = next_more c.args.slots.now c.requires.sound c.args.hole c.passing.next c.requires.there c.passing.invariant.0 c.passing.invariant.1
    c.pass-next.result (c.passing-test.ensures.0 refl) c.pass-next.ensures in
    omega (arith, near, more.0)

pub passing-preserved : goal.passing-preserved
passing-preserved c =
    (next_more c.args.slots.now c.requires.sound c.args.hole c.passing.next c.requires.there c.passing.invariant.0 c.passing.invariant.1
    c.pass-next.result (c.passing-test.ensures.0 refl) c.pass-next.ensures).1

pub returns : goal.returns
returns c =
    last_found c.args.slots.now c.requires.sound c.args.hole c.passing.next c.requires.there c.passing.invariant.0 c.passing.invariant.1
    (λ is. let before = c.passing-test.ensures.1 is in cc (before))
