use Rattle.std.proofs.Common.{◌∙◌, sym, refl, Some, None, true, false}
use Rattle.script_text.specs.Words.{words_of}
use Rattle.script_text.specs.Forms.{command_of}
use Rattle.script_text.proofs.Meanings.{no_word_said, words_said}
use Rattle.script_text.proofs.forms.meaning_of.Goals as goal

pub returns-in-None : goal.returns-in-None
returns-in-None c = no_word_said c.args.line.now c.without_return.result.now c.without_return.ensures c.in-None.ensures

pub returns-then-is_comment : goal.returns-then-is_comment
returns-then-is_comment c =
    let behind = c.in-Some.parts.1.now in
    words_said c.args.line.now c.without_return.result.now c.in-Some.parts.0.now behind true (command_of c.in-Some.parts.0.now (words_of behind))
    c.without_return.ensures c.in-Some.ensures c.if-is_comment.ensures refl

pub returns-in-Some-2 : goal.returns-in-Some-2
returns-in-Some-2 c =
    words_said c.args.line.now c.without_return.result.now c.in-Some.parts.0.now c.in-Some.parts.1.now false (Some c.in-Some-2.command)
    c.without_return.ensures c.in-Some.ensures c.if-is_comment.ensures (sym c.in-Some-2.is ∙ c.in_ok-command.ensures)

pub returns-in-None-2 : goal.returns-in-None-2
returns-in-None-2 c =
    words_said c.args.line.now c.without_return.result.now c.in-Some.parts.0.now c.in-Some.parts.1.now false None
    c.without_return.ensures c.in-Some.ensures c.if-is_comment.ensures (sym c.in-None-2.is ∙ c.in_ok-command.ensures)
