use Rattle.std.proofs.Common.{ap, ◌∙◌}
use Rattle.script_text.specs.Lines.{script_lines}
use Rattle.script_text.proofs.Cuts.{lines_cut, lines_alone}
use Rattle.script_text.proofs.lines.first_line.Goals as goal

pub returns-in-Some-clause-lines : goal.returns-in-Some-clause-lines
returns-in-Some-clause-lines c = ap script_lines c.in-Some.ensures.0 ∙ lines_cut c.in-Some.parts.0.now c.in-Some.parts.1.now c.in-Some.ensures.1

pub returns-in-None-clause-lines : goal.returns-in-None-clause-lines
returns-in-None-clause-lines c = lines_alone c.args.bytes.now c.requires c.in-None.ensures
