use Rattle.std.proofs.Common.{ap, ◌∙◌, ◌++◌}
use Rattle.report_text.proofs.Words.{short_word_is}
use Rattle.report_text.proofs.push.push_short_word.Goals as goal

pub returns-clause-text : goal.returns-clause-text
returns-clause-text c =
    c.push_text.ensures.text
    ∙ ap (λ ds. c.args.line.now.items ++ ds) (c.as_flattened.ensures.value ∙ short_word_is c.args.n c.to_be_bytes.result c.byte_digits.result c.byte_digits-2.result c.byte_digits-3.result c.byte_digits-4.result c.to_be_bytes.ensures
    c.byte_digits.ensures c.byte_digits-2.ensures c.byte_digits-3.ensures c.byte_digits-4.ensures)
