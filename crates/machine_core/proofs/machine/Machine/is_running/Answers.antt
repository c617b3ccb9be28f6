use Rattle.std.proofs.Common.{sym, ◌∙◌}
use Rattle.machine_core.specs.Machine.{is_running}
use Rattle.machine_core.specs.Laws.{answers, like_running, runs_shown}
use Rattle.machine_core.specs.Kept.{machine_of}
use Rattle.machine_core.proofs.machine.Machine.is_running.Goals as goal

pub returns-clause-running : goal.returns-clause-running
returns-clause-running c =
    rw (← c.self.view_is) (c.runs_in.ensures ∙ sym (runs_shown (machine_of c.self.inside.extension c.self.inside.memory c.self.inside.processes) c.args.p))

pub returns-clause-stands : goal.returns-clause-stands
returns-clause-stands c =
    answers (λ state. is_running state c.args.p) c.args.self.now c.runs_in.result (λ a b like. like_running c.args.p a b like) (returns-clause-running c)
