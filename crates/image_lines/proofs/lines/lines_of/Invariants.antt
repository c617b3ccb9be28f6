use Rattle.std.proofs.Common.{length}
use Rattle.image_lines.proofs.LineRuns.{HaveLines}
use Rattle.image_lines.proofs.lines.lines_of.Given as goal

abbrev pub invariant-lines : goal.invariant-lines
invariant-lines l = HaveLines l.file l.out.items l.rest l.line

abbrev pub decreases-lines : goal.decreases-lines
decreases-lines l = length l.rest
