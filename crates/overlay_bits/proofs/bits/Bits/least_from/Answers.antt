use Rattle.overlay_bits.proofs.Least.{least_of}
use Rattle.overlay_bits.proofs.bits.Bits.least_from.Goals as goal

pub returns : goal.returns
returns c =
    least_of c.args.self c.minus.result c.range.result c.args.line c.first.result c.minus.ensures.before c.range.ensures.lines c.minus.ensures.lines
    c.minus.ensures.are c.first.ensures.first
