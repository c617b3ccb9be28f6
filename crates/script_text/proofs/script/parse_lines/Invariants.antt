use Rattle.std.proofs.Common.{◌≡◌, ◌+◌, ◌≤◌, length}
use Rattle.std.specs.List.{All}
use Rattle.script_text.specs.Script.{commands_of, commands_from, meanings}
use Rattle.script_text.specs.Given.{IsGiven}
use Rattle.script_text.proofs.Scripts.{behind}
use Rattle.script_text.proofs.script.parse_lines.Given as goal

-- what was said so far, and what the lines that are left say
abbrev pub invariant-lines : goal.invariant-lines
invariant-lines l = record {
  said : commands_of l.bytes ≡ behind l.commands.items (commands_from l.k (meanings l.rest));
  given : All IsGiven l.commands.items;
  few : l.k + length l.rest ≤ length l.bytes + 1;
}

abbrev pub decreases-lines : goal.decreases-lines
decreases-lines l = length l.rest
