use Rattle.std.proofs.Common.{rules}
use Rattle.image_lines.proofs.DigitPairs.{no_pairs, pair_more, pairs_end}
use Rattle.image_lines.proofs.digits.full_line.Goals as goal

pub pairs-init : goal.pairs-init
pairs-init c = no_pairs c.args.digits.now _ (search rules)

pub pairs-preserved : goal.pairs-preserved
pairs-preserved c =
    pair_more c.args.digits.now c.pairs.bytes c.pairs.most c.pairs.i c.value_of-high.result c.value_of-low.result c.max.result c.max-most.result (search rules)
    c.pairs-test.true c.pairs.invariant c.value_of-high.ensures c.value_of-low.ensures c.max.ensures c.max-most.ensures

pub returns-then-most-lt-NO_DIGIT : goal.returns-then-most-lt-NO_DIGIT
returns-then-most-lt-NO_DIGIT c =
    pairs_end c.args.digits.now c.pairs.bytes c.pairs.most c.pairs.i (search rules) (search rules) c.if-most-lt-NO_DIGIT.true c.pairs.invariant
