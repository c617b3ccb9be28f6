use Rattle.std.proofs.Common.{subst, arith}
use Rattle.command_core.specs.State.{State}
use Rattle.command_core.specs.Commands.{Performed}
use Rattle.process_runs.specs.Turns.{by_turns}
use Rattle.overlay_top.specs.Running.{TakesOn}
use Rattle.overlay_top.proofs.Beginnings.{takes_begun}
use Rattle.overlay_top.proofs.commands.run_all.Goals as goal

pub returns-clause-takes : goal.returns-clause-takes
returns-clause-takes g c =
    let session = c.args.session.now in
    subst (λ (d : Performed State). TakesOn g.K.Sink c.args.report.now.sink.now c.take_turns.new.report.sink.now d session c.take_turns.new.session c.take_turns.result)
    (takes_begun c.begin_run-running.result (by_turns session.modes.quantum session.modes.calls c.args.turns) session.state c.begin_run-running.ensures.begun (omega arith)) c.take_turns.ensures.takes
