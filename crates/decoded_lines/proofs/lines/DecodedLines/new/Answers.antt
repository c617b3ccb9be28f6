use Rattle.std.proofs.Common.{sym, subst}
use Rattle.decoded_lines.specs.Decoded.{AreDecoded}
use Rattle.decoded_lines.proofs.Decoding.{none_told}
use Rattle.decoded_lines.proofs.lines.DecodedLines.new.Goals as goal

pub invariant_of-result : goal.invariant_of-result
invariant_of-result g c =
    subst (λ lines. AreDecoded g.D.Decoder.has lines c.in_ok-instructions.instructions.items c.in_ok-counts.counts.items) (sym c.in_ok-lines.ensures)
    (subst (λ instructions. AreDecoded g.D.Decoder.has _ instructions c.in_ok-counts.counts.items) (sym c.in_ok-instructions.ensures)
    (subst (AreDecoded g.D.Decoder.has _ _) (sym c.in_ok-counts.ensures) (none_told g.D.Decoder.has _ _)))
