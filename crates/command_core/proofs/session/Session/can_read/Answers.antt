use Rattle.std.proofs.Common.{ap, subst}
use Rattle.machine_core.specs.Machine.{Processes}
use Rattle.command_core.specs.Sessions.{InSession}
use Rattle.command_core.specs.Looks.{CanRead}
use Rattle.command_core.proofs.Bytes.{looks_are}
use Rattle.command_core.proofs.Standing.{for_each}
use Rattle.command_core.proofs.session.Session.can_read.Goals as goal

pub returns-in-Some-clause-looks : goal.returns-in-Some-clause-looks
returns-in-Some-clause-looks c =
    subst (λ (processes : Processes). CanRead processes c.args.p c.args.address c.args.n c.can_read.result) (ap (λ (s : InSession). s.state.wholes.processes) c.self.view_is)
    (looks_are c.self.inside.machine c.memory.result.now c.args.p c.args.address c.args.n c.in-Some.field-0.now c.memory.ensures c.in-Some.ensures.kept c.can_read.result c.can_read.ensures.looks)

pub returns-in-Some-clause-stands : goal.returns-in-Some-clause-stands
returns-in-Some-clause-stands c =
    for_each (λ (processes : Processes). CanRead processes c.args.p c.args.address c.args.n c.can_read.result) c.args.self.now (returns-in-Some-clause-looks c)
