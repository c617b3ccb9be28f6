use Rattle.std.proofs.Common.{ap, subst, sym, ◌∙◌}
use Rattle.report_text.specs.Answers.{HasPort, has_turn_line, turn_text}
use Rattle.process_runs.proofs.taking.spoken.Goals as goal

pub turn_line-requires : goal.turn_line-requires
turn_line-requires c = subst HasPort (sym c.turn.ensures) c.requires.port

pub returns-clause-text : goal.returns-clause-text
returns-clause-text c = c.turn_line.ensures.text ∙ ap (turn_text c.args.p) c.turn.ensures

pub returns-clause-has : goal.returns-clause-has
returns-clause-has c = c.turn_line.ensures.has ∙ ap has_turn_line c.turn.ensures
