use Rattle.decoded_lines.proofs.Decoding.{entered}
use Rattle.decoded_lines.proofs.lines.DecodedLines.change.Goals as goal

pub invariant_of-self : goal.invariant_of-self
invariant_of-self g c =
    entered g.D.Decoder.has c.self.inside.lines.items c.self.inside.instructions.items c.decode_line.new.instructions.items c.self.inside.counts.items
    c.decode_line.new.counts.items _ c.args.line.now c.self.invariant c.requires c.decode_line.ensures.here c.decode_line.ensures.beside
    c.decode_line.ensures.counts_beside c.decode_line.ensures.all c.decode_line.ensures.counted
