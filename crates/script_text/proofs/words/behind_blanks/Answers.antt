use Rattle.std.proofs.Common.{sym}
use Rattle.script_text.proofs.Spaces.{words_from, all_blank}
use Rattle.script_text.proofs.words.behind_blanks.Goals as goal

pub returns-then-not-is_blank-clause-words : goal.returns-then-not-is_blank-clause-words
returns-then-not-is_blank-clause-words c = words_from c.args.text.now c.loop-i.i c.loop-i.invariant

pub returns-clause-words : goal.returns-clause-words
returns-clause-words c = sym (all_blank c.args.text.now c.loop-i.i c.loop-i-test.false c.loop-i.invariant)
