use Rattle.std.proofs.Common.{◌≡◌, ◌+◌, ◌≤◌, arith, ap, subst, sym, [], ◌∷◌, ◌++◌, ◌∙◌, List, length}
use Rattle.std.specs.List.{All}
use Rattle.std.proofs.lemmas.List.Elements.{All-nil, All-push}
use Rattle.script_text.specs.declared.command.Command.{Command}
use Rattle.script_text.specs.Given.{IsGiven}
use Rattle.script_text.specs.declared.command.Meaning.TheVariants.{Does}
use Rattle.script_text.specs.Script.{meaning_of, meanings, commands_from, commands_of}
use Rattle.script_text.proofs.Scripts.{behind, none_said, command_said, nothing_said}
use Rattle.script_text.proofs.Ranges.{command_given}
use Rattle.script_text.proofs.script.parse_lines.Goals as goal
use Rattle.script_text.proofs.script.parse_lines.Goals.{in-Does+in_ok-push-in-Does, in-Nothing}

pub lines-init : goal.lines-init
lines-init c = record {
  said = none_said c.args.bytes.now c.new-commands.result.items c.new-commands.ensures.items;
  given = subst (λ (cs : List Command). All IsGiven cs) (sym c.new-commands.ensures.items) (All-nil IsGiven);
  few = omega arith;
}

pub lines-preserved : goal.lines-preserved
lines-preserved c =
    let said = c.lines.invariant.said in
    let few : c.lines.k + 1 + length c.first_line.result.1.now ≤ length c.args.bytes.now + 1 = omega (arith, c.lines.invariant.few, c.first_line.ensures.shorter) in
    elim c.match-branch-2.branch [
      | in-Does+in_ok-push-in-Does w ↦
          let command = w.in-Does.command in
          let is : Does command ≡ meaning_of c.first_line.result.0.now = sym w.in-Does.is ∙ c.in_ok-command.ensures in
          let pushed : c.match-branch-2.commands.items ≡ c.lines.commands.items ++ command ∷ [] = ap (λ v. v.items) w.commands-is ∙ w.in_ok-push-in-Does.ensures.items in
          record {
            said = command_said c.args.bytes.now c.lines.rest.now c.first_line.result.0.now c.first_line.result.1.now c.lines.k c.lines.commands.items _ command said
                c.first_line.ensures.lines is pushed;
            given = subst (λ (cs : List Command). All IsGiven cs) (sym pushed)
                (All-push IsGiven c.lines.commands.items command c.lines.invariant.given (command_given c.first_line.result.0.now command is));
            few = few;
          }
      | in-Nothing w ↦
          let same : c.match-branch-2.commands.items ≡ c.lines.commands.items = ap (λ v. v.items) w.commands-is in
          record {
            said = subst (λ (cs : List Command). commands_of c.args.bytes.now ≡ behind cs (commands_from (c.lines.k + 1) (meanings c.first_line.result.1.now))) (sym same)
                (nothing_said c.args.bytes.now c.lines.rest.now c.first_line.result.0.now c.first_line.result.1.now c.lines.k c.lines.commands.items said
                c.first_line.ensures.lines (sym w.in-Nothing.is ∙ c.in_ok-command.ensures));
            given = subst (λ (cs : List Command). All IsGiven cs) (sym same) c.lines.invariant.given;
            few = few;
          }
    ]
