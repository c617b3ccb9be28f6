use Rattle.std.proofs.Common.{length}
use Rattle.overlay_bits.specs.Kept.{lines_of_word}
use Rattle.delta_image.proofs.Lines.{HaveLines}
use Rattle.delta_image.proofs.decoding.lines_at.Given as goal

abbrev pub invariant-lines : goal.invariant-lines
invariant-lines l = HaveLines l.bytes l.given l.left l.lines.items l.rest

abbrev pub decreases-lines : goal.decreases-lines
decreases-lines l = length (lines_of_word l.left)
