use Rattle.decoded_lines.proofs.Decoding.{IsDecoding}
use Rattle.decoded_lines.proofs.lines.decode_line.Given as goal

abbrev pub invariant-decoding : goal.invariant-decoding
invariant-decoding g l =
    IsDecoding g.D.Decoder.has l.slot l.line l.fn.instructions.items l.instructions.items l.fn.counts.items l.counts.items l.place l.count

abbrev pub decreases-decoding : goal.decreases-decoding
decreases-decoding g l = l.place
