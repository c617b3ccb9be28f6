use Rattle.std.proofs.Common.{◌∙◌}
use Rattle.machine_core.proofs.machine.Machine.answer_whole.Goals as goal

pub returns-clause-answers : goal.returns-clause-answers
returns-clause-answers c state is = c.turn.ensures ∙ c.answer-came.ensures.answers state is
