use Rattle.std.proofs.Common.{sym, ◌∙◌}
use Rattle.asm_lines.specs.Words.{words}
use Rattle.asm_lines.proofs.TextLines.{empty_item}
use Rattle.asm_lines.proofs.Soundness.{said_sound}
use Rattle.asm_lines.proofs.Rows.{word_read}
use Rattle.asm_lines.proofs.lines.item_on.Goals as goal

pub returns-then-is_empty-clause-is : goal.returns-then-is_empty-clause-is
returns-then-is_empty-clause-is c = sym (empty_item c.args.line.now (sym c.is_empty.ensures ∙ c.if-is_empty.true))

pub returns-then-is_empty-clause-back : goal.returns-then-is_empty-clause-back
returns-then-is_empty-clause-back c = λ word i is other. word_read word i is other

pub returns-clause-sound : goal.returns-clause-sound
returns-clause-sound c = said_sound (words c.args.line.now) c.item_behind.result c.item_behind.ensures

pub returns-clause-back : goal.returns-clause-back
returns-clause-back c = λ word i is other. word_read word i is other
