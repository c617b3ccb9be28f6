use Rattle.std.proofs.Common.{sym, ◌∙◌}
use Rattle.asm_lines.proofs.TextLines.{empty_front}
use Rattle.asm_lines.proofs.lines.front_of.Goals as goal

pub returns-then-is_empty : goal.returns-then-is_empty
returns-then-is_empty c = sym (empty_front c.args.line.now (sym c.is_empty.ensures ∙ c.if-is_empty.true))
