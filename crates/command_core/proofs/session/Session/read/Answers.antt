use Rattle.std.proofs.Common.{ap, subst, length}
use Rattle.machine_core.specs.Machine.{Processes}
use Rattle.command_core.specs.Sessions.{InSession}
use Rattle.command_core.specs.Looks.{CanRead, ReadsBytes}
use Rattle.command_core.proofs.Bytes.{bytes_are, looks_are}
use Rattle.command_core.proofs.Standing.{for_each}
use Rattle.command_core.proofs.session.Session.read.Goals as goal

pub returns-in-Some-clause-looks : goal.returns-in-Some-clause-looks
returns-in-Some-clause-looks c =
    subst (λ (processes : Processes). CanRead processes c.args.p c.args.address (length c.args.into.now) c.read_bytes.result) (ap (λ (s : InSession). s.state.wholes.processes) c.self.view_is)
    (looks_are c.self.inside.machine c.memory.result.now c.args.p c.args.address (length c.args.into.now) c.in-Some.field-0.now c.memory.ensures c.in-Some.ensures.kept c.read_bytes.result
    c.read_bytes.ensures.looks)

pub returns-in-Some-clause-bytes : goal.returns-in-Some-clause-bytes
returns-in-Some-clause-bytes c =
    subst (λ (processes : Processes). ReadsBytes processes c.args.p c.args.address (length c.args.into.now) c.read_bytes.new.into c.read_bytes.result)
    (ap (λ (s : InSession). s.state.wholes.processes) c.self.view_is)
    (bytes_are c.self.inside.machine c.memory.result.now c.args.p c.args.address (length c.args.into.now) c.in-Some.field-0.now c.memory.ensures c.in-Some.ensures.kept c.read_bytes.result
    c.read_bytes.new.into c.read_bytes.ensures.bytes)

pub returns-in-Some-clause-stands : goal.returns-in-Some-clause-stands
returns-in-Some-clause-stands c =
    for_each (λ (processes : Processes). CanRead processes c.args.p c.args.address (length c.args.into.now) c.read_bytes.result) c.args.self.now (returns-in-Some-clause-looks c)
