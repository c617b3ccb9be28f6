use Rattle.std.proofs.Common.{subst, sym}
use Rattle.ovl_io.specs.declared.turn.Turn.{Turn}
use Rattle.machine_core.specs.Machine.{wholes}
use Rattle.self_speculation.specs.Taken.{AnswersRequest}
use Rattle.self_speculation.proofs.turns.answer_whole.Goals as goal

pub returns-clause-answers : goal.returns-clause-answers
returns-clause-answers c =
    subst (λ (t : Turn). AnswersRequest c.args.calls c.args.p (wholes c.args.machine.now) t (wholes c.answer-came.new.machine)) (sym c.turn.ensures) c.answer-came.ensures.answers
