use Rattle.std.proofs.Common.{◌%◌, length, ap, sym, subst₂, ◌∙◌, arith}
use Rattle.overlay_mapping_table.specs.Shifts.{AreLowered}
use Rattle.overlay_mapping_table.proofs.Blocks.{lowered_block}
use Rattle.overlay_mapping_table.proofs.Moving.{lowered, lowers}
use Rattle.overlay_mapping_table.proofs.shifts.lower.Goals as goal

pub returns-then-to-last : goal.returns-then-to-last
returns-then-to-last c =
    lowered_block (length c.args.slots.now) c.move_down.new.self c.args.slots.now c.args.hole c.args.last c.wrap-to.result
    (sym c.move_down.ensures.rows.size)
    (c.wrap-to.ensures.same ∙ ap (λ n. c.args.hole % n) c.len-n.ensures) c.requires.order (omega (arith, c.if-to-last.true, c.len-n.ensures))
    c.move_down.ensures.rows c.requires.apart c.requires.bare c.move_down.ensures.bare

pub lowering-preserved : goal.lowering-preserved
lowering-preserved c =
    lowers c.len-n.result c.args.slots.now c.lowering.slots c.carry.new.self c.args.hole c.lowering.gap c.args.last c.wrap.result
    c.wrap-in-lowering.result c.lowering.invariant.1 c.lowering-test.true (omega (arith, c.requires.near, c.len-n.ensures)) c.wrap.ensures.same
    c.wrap-in-lowering.ensures.same c.carry.ensures

pub returns-after-lowering : goal.returns-after-lowering
returns-after-lowering c =
    subst₂ (λ n last. AreLowered n c.args.slots.now c.lowering.slots c.args.hole last) c.len-n.ensures
    (omega (arith, c.lowering-test.false, c.lowering.invariant.0))
    (lowered c.len-n.result c.args.slots.now c.lowering.slots c.args.hole c.lowering.gap c.requires.apart c.lowering.invariant.1)
