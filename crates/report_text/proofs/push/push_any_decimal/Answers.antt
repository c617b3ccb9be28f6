use Rattle.std.proofs.Common.{ap, ◌∙◌, ◌++◌}
use Rattle.report_text.proofs.Places.{decimal_is}
use Rattle.report_text.proofs.push.push_any_decimal.Goals as goal

pub returns-clause-text : goal.returns-clause-text
returns-clause-text c =
    c.push_text.ensures.text
    ∙ ap (λ ds. c.args.line.now.items ++ ds) (c.as_bytes.ensures.value ∙ c.format.ensures.text ∙ decimal_is c.args.n c.ranges.n.fits)
