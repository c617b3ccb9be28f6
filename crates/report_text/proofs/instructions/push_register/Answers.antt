use Rattle.std.proofs.Common.{[], ◌∷◌, ◌++◌, sym, ap, ◌∙◌}
use Rattle.report_text.proofs.Words.{one_decimal, two_decimals}
use Rattle.report_text.proofs.instructions.push_register.Goals as goal

pub returns-then-n-lt10-clause-text : goal.returns-then-n-lt10-clause-text
returns-then-n-lt10-clause-text c =
    c.push_text.ensures.text
    ∙ ap (λ ds. c.args.line.now.items ++ c.args.before ∷ 120 ∷ (ds ++ c.args.after ∷ [])) (sym (one_decimal c.args.n c.if-n-lt10.true))

pub returns-then-n-lt100-clause-text : goal.returns-then-n-lt100-clause-text
returns-then-n-lt100-clause-text c =
    c.push_text-then-n-lt100.ensures.text
    ∙ ap (λ ds. c.args.line.now.items ++ c.args.before ∷ 120 ∷ (ds ++ c.args.after ∷ [])) (sym (two_decimals c.args.n c.if-n-lt10.false c.if-n-lt100.true))
