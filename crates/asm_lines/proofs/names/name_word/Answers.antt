use Rattle.std.proofs.Common.{refl, ◌∙◌}
use Rattle.asm_lines.proofs.Narrowing.{by_letter, by_none}
use Rattle.asm_lines.proofs.names.name_word.Goals as goal

pub returns-then-is_empty : goal.returns-then-is_empty
returns-then-is_empty c = c.name_among.ensures ∙ by_none c.args.word.now

pub returns-in-97 : goal.returns-in-97
returns-in-97 c = c.name_among-in-97.ensures ∙ by_letter c.args.word.now 97 _ c.in-97.is refl

pub returns-in-98 : goal.returns-in-98
returns-in-98 c = c.name_among-in-98.ensures ∙ by_letter c.args.word.now 98 _ c.in-98.is refl

pub returns-in-101 : goal.returns-in-101
returns-in-101 c = c.name_among-in-101.ensures ∙ by_letter c.args.word.now 101 _ c.in-101.is refl

pub returns-in-106 : goal.returns-in-106
returns-in-106 c = c.name_among-in-106.ensures ∙ by_letter c.args.word.now 106 _ c.in-106.is refl

pub returns-in-108 : goal.returns-in-108
returns-in-108 c = c.name_among-in-108.ensures ∙ by_letter c.args.word.now 108 _ c.in-108.is refl

pub returns-in_default : goal.returns-in_default
returns-in_default c = c.name_among-in_default.ensures ∙ by_none c.args.word.now
