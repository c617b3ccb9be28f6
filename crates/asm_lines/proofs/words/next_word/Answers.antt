use Rattle.std.proofs.Common.{sym, ◌∙◌}
use Rattle.asm_lines.proofs.Fronts.{words_from, comment_left, all_blank}
use Rattle.asm_lines.proofs.words.next_word.Goals as goal

pub returns-then-b-eq35 : goal.returns-then-b-eq35
returns-then-b-eq35 c = comment_left c.args.text.now c.loop-i.i c.loop-i-test.true c.loop-i.invariant c.if-b-eq35.true

pub returns-then-not-is_blank : goal.returns-then-not-is_blank
returns-then-not-is_blank c = sym (words_from c.args.text.now c.loop-i.i c.loop-i.invariant) ∙ c.front_word.ensures

pub returns : goal.returns
returns c = all_blank c.args.text.now c.loop-i.i c.loop-i-test.false c.loop-i.invariant
