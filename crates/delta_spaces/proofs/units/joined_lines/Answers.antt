use Rattle.std.proofs.Common.{[]}
use Rattle.delta_spaces.proofs.Counting.{joined_low, joined_more, joined_none}
use Rattle.delta_spaces.proofs.units.joined_lines.Goals as goal

pub joining-init : goal.joining-init
joining-init c = joined_none c.args.own

pub with-joined-requires : goal.with-joined-requires
with-joined-requires c = joined_low c.args.lines.now c.joining.line-index (0, []) c.requires.lines c.joining-test.true

pub joining-preserved : goal.joining-preserved
joining-preserved c =
    joined_more c.args.own c.args.lines.now c.joining.line-index (0, []) c.requires.lines c.joining-test.true c.joining.joined c.with-joined.result c.joining.invariant c.with-joined.ensures.before
    c.with-joined.ensures.lines
