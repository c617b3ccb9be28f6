use Rattle.std.proofs.Common.{refl, ◌∙◌}
use Rattle.asm_lines.proofs.Narrowing.{by_length, by_none}
use Rattle.asm_lines.proofs.names.name_with_s.Goals as goal

pub returns-in-2 : goal.returns-in-2
returns-in-2 c = c.name_among.ensures ∙ by_length c.args.word.now 115 2 _ c.requires c.in-2.is refl

pub returns-in-3 : goal.returns-in-3
returns-in-3 c = c.name_among-in-3.ensures ∙ by_length c.args.word.now 115 3 _ c.requires c.in-3.is refl

pub returns-in-4 : goal.returns-in-4
returns-in-4 c = c.name_among-in-4.ensures ∙ by_length c.args.word.now 115 4 _ c.requires c.in-4.is refl

pub returns-in-5 : goal.returns-in-5
returns-in-5 c = c.name_among-in-5.ensures ∙ by_length c.args.word.now 115 5 _ c.requires c.in-5.is refl

pub returns-in_default : goal.returns-in_default
returns-in_default c = c.name_among-in_default.ensures ∙ by_none c.args.word.now
