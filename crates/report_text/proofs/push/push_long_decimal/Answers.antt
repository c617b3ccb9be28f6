use Rattle.std.proofs.Common.{sym, ap, ◌∙◌, ◌++◌}
use Rattle.report_text.proofs.Words.{three_decimals, four_decimals}
use Rattle.report_text.proofs.push.push_long_decimal.Goals as goal

pub returns-then-n-lt1000-clause-text : goal.returns-then-n-lt1000-clause-text
returns-then-n-lt1000-clause-text c =
    c.push_text.ensures.text ∙ ap (λ ds. c.args.line.now.items ++ ds) (sym (three_decimals c.args.n c.requires.many c.if-n-lt1000.true))

pub returns-then-n-lt10000-clause-text : goal.returns-then-n-lt10000-clause-text
returns-then-n-lt10000-clause-text c =
    c.push_text-then-n-lt10000.ensures.text ∙ ap (λ ds. c.args.line.now.items ++ ds) (sym (four_decimals c.args.n c.if-n-lt1000.false c.if-n-lt10000.true))
