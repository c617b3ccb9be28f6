use Rattle.std.proofs.Common.{sym, ◌∙◌, arith}
use Rattle.std.proofs.lemmas.Bool.Decides.{nat_tests}
use Rattle.decoded_lines.proofs.Sameness.{all_same, more_same, none_apart}
use Rattle.decoded_lines.proofs.lines.is_same.Goals as goal

pub comparing-init : goal.comparing-init
comparing-init c none i below = absurd (omega (arith, below))

pub comparing-preserved : goal.comparing-preserved
comparing-preserved c none =
    let both = none_apart _ _ _ none in
    more_same c.comparing.word c.args.a.now c.args.b.now c.fits-a c.fits-b (c.comparing.invariant both.0)
    (sym c.read_u64.ensures ∙ both.1 ∙ c.read_u64-in-comparing.ensures)

pub returns : goal.returns
returns c done =
    all_same c.args.a.now c.args.b.now c.told-a c.told-b (λ i below. c.comparing.invariant (grind (arith, nat_tests)) i (omega (arith, below, c.comparing-test.false)))
