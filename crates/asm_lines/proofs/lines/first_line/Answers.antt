use Rattle.std.proofs.Common.{ap, ◌∙◌}
use Rattle.asm_lines.proofs.TextLines.{split, lines_split, cut_shorter}
use Rattle.asm_lines.proofs.lines.first_line.Goals as goal

pub returns-in-Some-clause-lines : goal.returns-in-Some-clause-lines
returns-in-Some-clause-lines c = lines_split c.args.bytes.now c.requires ∙ ap (λ o. split o c.args.bytes.now) c.in-Some.ensures

pub returns-in-Some-clause-shorter : goal.returns-in-Some-clause-shorter
returns-in-Some-clause-shorter c = cut_shorter 10 c.args.bytes.now (c.in-Some.parts.0.now, c.in-Some.parts.1.now) c.in-Some.ensures

pub returns-in-None-clause-lines : goal.returns-in-None-clause-lines
returns-in-None-clause-lines c = lines_split c.args.bytes.now c.requires ∙ ap (λ o. split o c.args.bytes.now) c.in-None.ensures
