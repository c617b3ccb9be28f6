use Rattle.std.proofs.Common.{sym, ◌∙◌}
use Rattle.asm_lines.proofs.Fronts.{mark_front, word_cut, whole_word}
use Rattle.asm_lines.proofs.words.front_word.Goals as goal

pub returns-then-is_mark : goal.returns-then-is_mark
returns-then-is_mark c = mark_front c.args.text.now c.requires (sym c.is_mark.ensures ∙ c.if-is_mark.true)

pub returns-then-not-is_inner : goal.returns-then-not-is_inner
returns-then-not-is_inner c =
    word_cut c.args.text.now c.loop-i.i c.loop-i-test.true c.requires (sym c.is_mark.ensures ∙ c.if-is_mark.false) c.loop-i.invariant (sym c.is_inner.ensures ∙ c.if-not-is_inner.true)

pub returns : goal.returns
returns c = whole_word c.args.text.now c.loop-i.i c.loop-i-test.false c.requires c.loop-i.invariant
