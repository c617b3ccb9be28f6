use Rattle.std.proofs.Common.{[]}
use Rattle.delta_image.proofs.Lines.{lines_more}
use Rattle.delta_image.proofs.encoding.lines_length.Goals as goal

pub lines-preserved : goal.lines-preserved
lines-preserved c =
    lines_more c.args.lines.now c.lines.bytes-index c.lines.length c.line_length-length.result (0, []) c.lines-test.true c.line_length-length.ensures.length
    c.line_length-length.ensures.whole c.lines.invariant
