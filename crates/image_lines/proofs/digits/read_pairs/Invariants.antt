use Rattle.std.proofs.Common.{length}
use Rattle.image_lines.specs.Reading.{HaveBytes}
use Rattle.image_lines.proofs.digits.read_pairs.Given as goal

abbrev pub invariant-bytes : goal.invariant-bytes
invariant-bytes l = HaveBytes l.fn.out.items l.out.items l.text l.rest

abbrev pub decreases-bytes : goal.decreases-bytes
decreases-bytes l = length l.rest
