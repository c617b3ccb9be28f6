use Rattle.std.proofs.Common.{◌∙◌}
use Rattle.asm_lines.proofs.Signs.{immediate_by}
use Rattle.asm_lines.proofs.kinds.immediate_word.Goals as goal

pub returns : goal.returns
returns c = c.placed_in.ensures ∙ immediate_by c.args.format c.args.word.now c.signed_word.result c.signed_word.ensures
