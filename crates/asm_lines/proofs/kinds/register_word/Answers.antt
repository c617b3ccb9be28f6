use Rattle.std.proofs.Common.{sym, ◌∙◌}
use Rattle.asm_lines.proofs.Signs.{no_register, other_first, register_behind}
use Rattle.asm_lines.proofs.kinds.register_word.Goals as goal

pub returns-then-is_empty : goal.returns-then-is_empty
returns-then-is_empty c = no_register c.args.word.now (sym c.is_empty.ensures ∙ c.if-is_empty.true)

pub returns-then-word-ne120 : goal.returns-then-word-ne120
returns-then-word-ne120 c = other_first c.args.word.now c.if-word-ne120.true

pub returns : goal.returns
returns c = c.register_number.ensures ∙ register_behind c.args.word.now (sym c.is_empty.ensures ∙ c.if-is_empty.false) c.if-word-ne120.false
