use Rattle.std.proofs.Common.{◌∙◌, sym, ap}
use Rattle.std.specs.Option.{option_or}
use Rattle.script_text.specs.Words.{words_of}
use Rattle.script_text.specs.Forms.{debugger_forms, made_by}
use Rattle.script_text.proofs.Rows.{in_either}
use Rattle.script_text.proofs.forms.command_of.Goals as goal

pub returns-in-Some : goal.returns-in-Some
returns-in-Some c =
    let first = c.args.first.now in
    let words = words_of c.args.words.now in
    ap (λ o. option_or o (made_by debugger_forms first words)) (sym c.in-Some.is ∙ c.in_ok-command.ensures) ∙ in_either first words
