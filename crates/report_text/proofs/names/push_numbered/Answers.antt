use Rattle.std.proofs.Common.{ap, ◌∙◌, ◌++◌}
use Rattle.report_text.specs.Digits.{in_decimal}
use Rattle.report_text.proofs.Chains.{put_more}
use Rattle.report_text.proofs.names.push_numbered.Goals as goal

pub returns-clause-text : goal.returns-clause-text
returns-clause-text c =
    put_more c.args.line.now.items c.args.name.now (in_decimal c.from.result) _ _ c.push_text.ensures.text c.push_decimal.ensures.text
    ∙ ap (λ n. c.args.line.now.items ++ (c.args.name.now ++ in_decimal n)) c.from.ensures
