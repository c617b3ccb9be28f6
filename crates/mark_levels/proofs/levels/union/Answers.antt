use Rattle.std.proofs.Common.{◌+◌, ◌*◌, get_or, bit_or, ap, ◌∙◌, refl}
use Rattle.mark_levels.specs.Levels.{or_of}
use Rattle.mark_levels.proofs.Marks.{or_more}
use Rattle.mark_levels.proofs.levels.union.Goals as goal

pub joining-init : goal.joining-init
unfolding or_of
joining-init c = refl

pub joining-preserved : goal.joining-preserved
joining-preserved c =
    ap (λ b. bit_or b (get_or c.args.bytes.now (16 * c.args.group + c.joining.i) 0)) c.joining.invariant ∙ or_more c.args.bytes.now (16 * c.args.group) c.joining.i
