use Rattle.std.proofs.Common.{subst}
use Rattle.command_core.specs.State.{State}
use Rattle.command_core.specs.Commands.{Performed}
use Rattle.overlay_top.specs.Running.{TakesOn}
use Rattle.overlay_top.proofs.Beginnings.{step_begun}
use Rattle.overlay_top.proofs.commands.step.Goals as goal

pub returns-in-Ok-clause-takes : goal.returns-in-Ok-clause-takes
returns-in-Ok-clause-takes g c =
    let session = c.args.session.now in
    subst (λ (d : Performed State). TakesOn g.K.Sink c.args.report.now.sink.now c.take_turns.new.report.sink.now d session c.take_turns.new.session c.take_turns.result)
    (step_begun session.modes.calls c.args.p c.args.turns session.state c.in-Ok.running c.in-Ok.ensures.begun) c.take_turns.ensures.takes
