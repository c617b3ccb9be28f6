use Rattle.std.proofs.Common.{sym, ap, ◌∙◌, ◌++◌}
use Rattle.report_text.proofs.Plain.{all_plain}
use Rattle.report_text.proofs.push.push_bytes.Goals as goal

pub returns-then-are_plain-clause-text : goal.returns-then-are_plain-clause-text
returns-then-are_plain-clause-text c =
    c.push_text.ensures.text ∙ ap (λ ds. c.args.line.now.items ++ ds) (sym (all_plain c.args.bytes.now (sym c.are_plain.ensures ∙ c.if-are_plain.true)))
