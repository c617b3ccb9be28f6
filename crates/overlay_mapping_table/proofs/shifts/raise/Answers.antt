use Rattle.std.proofs.Common.{◌%◌, length, ap, refl, subst₂, ◌∙◌, arith}
use Rattle.overlay_mapping_table.specs.Shifts.{AreRaised}
use Rattle.overlay_mapping_table.proofs.Blocks.{raised_block}
use Rattle.overlay_mapping_table.proofs.Moving.{raised, raises}
use Rattle.overlay_mapping_table.proofs.shifts.raise.Goals as goal

pub returns-then-from-end : goal.returns-then-from-end
returns-then-from-end c =
    raised_block (length c.args.slots.now) c.args.slots.now c.move_up.new.self c.args.place c.args.end c.wrap-from.result refl
    (c.wrap-from.ensures.same ∙ ap (λ n. c.args.place % n) c.len-n.ensures) c.requires.end.low (omega (arith, c.if-from-end.true, c.len-n.ensures))
    c.move_up.ensures.rows c.requires.apart c.requires.end.bare c.move_up.ensures.bare

pub raising-preserved : goal.raising-preserved
raising-preserved c =
    raises c.len-n.result c.args.slots.now c.raising.slots c.carry.new.self c.args.place c.raising.hole c.args.end c.wrap.result c.wrap-in-raising.result
    c.raising.invariant.1 c.raising-test.true (omega (arith, c.requires.end.near, c.len-n.ensures)) c.wrap.ensures.same c.wrap-in-raising.ensures.same
    c.carry.ensures

pub returns-after-raising : goal.returns-after-raising
returns-after-raising c =
    subst₂ (λ n place. AreRaised n c.args.slots.now c.raising.slots place c.args.end) c.len-n.ensures
    (omega (arith, c.raising-test.false, c.raising.invariant.0))
    (raised c.len-n.result c.args.slots.now c.raising.slots c.raising.hole c.args.end c.requires.apart c.raising.invariant.1)
