use Rattle.std.proofs.Common.{ℕ, List, ◌+◌, ◌*◌, ◌++◌, ◌∙◌, ap, arith, drop}
use Rattle.script_text.specs.Kinds.{bytes_of_pairs}
use Rattle.script_text.proofs.Pairs.{one_pair, no_pair}
use Rattle.script_text.proofs.kinds.bytes_of_pairs.Goals as goal

pub pairs-init : goal.pairs-init
pairs-init c = ap (λ bytes. bytes ++ bytes_of_pairs c.args.digits.now) c.in_ok-bytes.ensures.items

pub pairs-preserved : goal.pairs-preserved
pairs-preserved c =
    ap (λ (bs : List ℕ). bs ++ bytes_of_pairs (drop (2 * (c.pairs.i + 1)) c.args.digits.now)) c.in_ok-push.ensures.items
    ∙ one_pair c.pairs.bytes.items c.args.digits.now c.pairs.i c.digit.result c.digit-in-pairs.result (omega (arith, c.pairs-test.true)) c.digit.ensures.value c.digit-in-pairs.ensures.value
    ∙ c.pairs.invariant

pub returns : goal.returns
returns c = no_pair c.pairs.bytes.items c.args.digits.now (bytes_of_pairs c.args.digits.now) (2 * c.pairs.i) (omega (arith, c.pairs-test.false)) c.pairs.invariant
