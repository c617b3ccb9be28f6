use Rattle.script_text.proofs.Scripts.{tells}
use Rattle.script_text.proofs.script.parse.Goals as goal

pub returns-clause-lines : goal.returns-clause-lines
returns-clause-lines c = tells (λ commands. commands.items) c.args.bytes.now c.parse_lines.result c.parse_lines.ensures.parses
