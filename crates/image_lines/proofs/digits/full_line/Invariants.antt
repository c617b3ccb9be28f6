use Rattle.image_lines.proofs.DigitPairs.{ArePairs}
use Rattle.image_lines.proofs.digits.full_line.Given as goal

abbrev pub invariant-pairs : goal.invariant-pairs
invariant-pairs l = ArePairs l.digits l.bytes l.most l.i
