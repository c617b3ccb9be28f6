use Rattle.std.proofs.Common.{ap, ◌∙◌, ◌++◌}
use Rattle.report_text.proofs.Words.{word_is}
use Rattle.report_text.proofs.push.push_word.Goals as goal

pub returns-clause-text : goal.returns-clause-text
returns-clause-text c =
    c.push_text.ensures.text
    ∙ ap (λ ds. c.args.line.now.items ++ ds) (c.as_flattened.ensures.value ∙ word_is c.args.n c.to_be_bytes.result c.byte_digits.result c.byte_digits-2.result c.byte_digits-3.result c.byte_digits-4.result c.byte_digits-5.result c.byte_digits-6.result c.byte_digits-7.result c.byte_digits-8.result c.to_be_bytes.ensures
    c.byte_digits.ensures c.byte_digits-2.ensures c.byte_digits-3.ensures c.byte_digits-4.ensures c.byte_digits-5.ensures c.byte_digits-6.ensures c.byte_digits-7.ensures c.byte_digits-8.ensures)
