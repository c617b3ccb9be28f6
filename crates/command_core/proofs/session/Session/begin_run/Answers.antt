use Rattle.std.proofs.Common.{ap, ◌∙◌}
use Rattle.round_robin.specs.Turns.{Turns}
use Rattle.process_runs.specs.declared.turns.Order.TheVariants.{ByTurns}
use Rattle.command_core.specs.Sessions.{InSession}
use Rattle.process_runs.specs.Turns.{begun_by, by_turns, run_found}
use Rattle.command_core.proofs.Standing.{run_begun}
use Rattle.command_core.proofs.session.Session.begin_run.Goals as goal

pub returns-clause-stands : goal.returns-clause-stands
returns-clause-stands c =
    let session = c.args.self.now in
    run_begun session (by_turns session.modes.quantum session.modes.calls c.args.turns) c.begin.result
    (c.begin.ensures ∙ ap (λ (t : Turns). run_found session.state.breakpoints session.state.wholes (begun_by (ByTurns t) session.modes.calls c.args.turns)) c.new.ensures
    ∙ ap (λ (s : InSession). run_found session.state.breakpoints session.state.wholes (by_turns s.modes.quantum session.modes.calls c.args.turns)) c.self.view_is)
