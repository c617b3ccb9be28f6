use Rattle.std.proofs.Common.{sym, true, false, ◌∙◌, subst, arith}
use Rattle.overlay_bits.proofs.Pages.{IsSoFar, all_done, none_yet, one_more, taken}
use Rattle.overlay_bits.proofs.composed.compose.Goals as goal
use Rattle.overlay_bits.proofs.composed.compose.Goals.{then-has, else-has}

pub composing-init : goal.composing-init
composing-init c = none_yet c.args.frame.now c.args.over.now c.args.bits c.args.out.now c.told-out

pub composing-preserved : goal.composing-preserved
composing-preserved c =
    one_more c.args.frame.now c.args.over.now c.args.bits c.composing.out c.composing.line c.if-has.out c.composing.invariant c.composing-test.true
    (elim c.if-has.branch [
      | then-has w ↦ taken _ _ _ true (sym c.has.ensures.has ∙ w.if-has.true) w.out-is
      | else-has w ↦ taken _ _ _ false (sym c.has.ensures.has ∙ w.if-has.false) w.out-is
    ])

pub returns : goal.returns
returns c =
    all_done c.args.frame.now c.args.over.now c.args.bits c.composing.out
    (subst (IsSoFar c.args.frame.now c.args.over.now c.args.bits c.composing.out)
    (omega (arith, c.composing-test.false, c.composing.auto.line-end)) c.composing.invariant)
