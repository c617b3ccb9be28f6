use Rattle.std.proofs.Common.{ap, subst}
use Rattle.machine_core.specs.Machine.{Processes, wholes}
use Rattle.command_core.specs.Sessions.{InSession}
use Rattle.command_core.specs.Kept.{spaces_kept}
use Rattle.command_core.proofs.Standing.{for_each}
use Rattle.command_core.specs.Looks.{NextProcess}
use Rattle.command_core.proofs.Looking.{next_is, next_within}
use Rattle.command_core.proofs.session.Session.next_process.Goals as goal

pub returns-clause-next : goal.returns-clause-next
returns-clause-next c =
    subst (λ (processes : Processes). NextProcess processes c.args.from c.next_process.result) (ap (λ (s : InSession). s.state.wholes.processes) c.self.view_is)
    (next_is (wholes c.self.inside.machine) c.args.from c.next_process.result c.next_process.ensures)

pub returns-clause-stands : goal.returns-clause-stands
returns-clause-stands c =
    for_each (λ (processes : Processes). NextProcess processes c.args.from c.next_process.result) c.args.self.now (returns-clause-next c)

pub returns-clause-within : goal.returns-clause-within
returns-clause-within c =
    next_within c.self.inside.machine (spaces_kept c.self.inside.checkpoints) c.self.inside.numbers c.args.from c.next_process.result c.self.invariant.0 c.next_process.ensures
