use Rattle.std.proofs.Common.{sym, ◌∙◌, ap}
use Rattle.std.specs.Prelude.{pos, neg_ℤ}
use Rattle.std.specs.Option.{option_map}
use Rattle.asm_lines.proofs.Signs.{no_number, minus_first, no_minus}
use Rattle.asm_lines.proofs.kinds.signed_word.Goals as goal

pub returns-then-is_empty : goal.returns-then-is_empty
returns-then-is_empty c = no_number c.args.word.now (sym c.is_empty.ensures ∙ c.if-is_empty.true)

pub returns-then-word-eq45 : goal.returns-then-word-eq45
returns-then-word-eq45 c =
    c.negated.ensures ∙ ap (option_map (λ n. neg_ℤ (pos n))) c.natural.ensures
    ∙ minus_first c.args.word.now (sym c.is_empty.ensures ∙ c.if-is_empty.false) c.if-word-eq45.true

pub returns-else-word-eq45 : goal.returns-else-word-eq45
returns-else-word-eq45 c =
    c.positive.ensures ∙ ap (option_map pos) c.natural-else-word-eq45.ensures
    ∙ no_minus c.args.word.now (sym c.is_empty.ensures ∙ c.if-is_empty.false) c.if-word-eq45.false
