use Rattle.std.proofs.Common.{ap, ◌∙◌, ◌++◌, codes}
use Rattle.report_text.specs.Digits.{in_decimal}
use Rattle.report_text.specs.Texts.{pages_text}
use Rattle.report_text.proofs.Chains.{put_six}
use Rattle.report_text.proofs.lines.put_checkpoint.Goals as goal

pub returns-clause-text : goal.returns-clause-text
returns-clause-text c =
    put_six c.args.line.now.items (codes "checkpoint ") c.args.name.now (codes " ") (in_decimal c.args.space) (pages_text c.args.pages) (codes "\n") c.push_text.new.line.items
    c.push_text-2.new.line.items c.push_text-3.new.line.items c.push_decimal.new.line.items c.push_pages.new.line.items c.push_text-4.new.line.items
    c.push_text.ensures.text c.push_text-2.ensures.text c.push_text-3.ensures.text
    (c.push_decimal.ensures.text ∙ ap (λ n. c.push_text-3.new.line.items ++ in_decimal n) c.from.ensures) c.push_pages.ensures.text c.push_text-4.ensures.text
