use Rattle.std.proofs.Common.{subst}
use Rattle.machine_core.specs.Machine.{AreLike, wholes}
use Rattle.process_runs.specs.PlaceLaws.{stay_kept}
use Rattle.process_runs.specs.Played.{AreOwnCalledTurns, run_over}
use Rattle.command_core.specs.Sessions.{InSession, KeepsRest}
use Rattle.command_core.specs.Kept.{shown_session, spaces_kept}
use Rattle.command_core.specs.Standing.{PlaysAs}
use Rattle.command_core.proofs.Breaks.{breaks_kept}
use Rattle.command_core.proofs.Places.{session_kept}
use Rattle.command_core.proofs.Standing.{plays_as, rest_kept}
use Rattle.command_core.proofs.session.Session.play_calls.Goals as goal

pub returns-clause-plays : goal.returns-clause-plays
returns-clause-plays c =
    subst (λ (s : InSession). AreLike (wholes c.play.new.machine) (run_over c.args.turns.now s.state.wholes)) c.self.view_is c.play.ensures.plays

pub returns-clause-own : goal.returns-clause-own
returns-clause-own c =
    subst (λ (s : InSession). AreOwnCalledTurns c.args.turns.now s.state.wholes (wholes c.play.new.machine)) c.self.view_is c.play.ensures.own

pub returns-clause-stands : goal.returns-clause-stands
returns-clause-stands c =
    let s = c.self.inside in
    let before : InSession = shown_session s.machine s.checkpoints s.breakpoints s.modes in
    let after : InSession = shown_session c.play.new.machine s.checkpoints s.breakpoints s.modes in
    subst (λ (x : InSession). PlaysAs c.args.turns.now x after) c.self.view_is
    (plays_as before after c.args.turns.now c.play.ensures.plays (rest_kept s.machine c.play.new.machine s.checkpoints s.breakpoints s.modes s.numbers c.self.invariant.0 c.play.ensures.free))

pub returns-clause-others : goal.returns-clause-others
returns-clause-others c =
    let s = c.self.inside in
    subst (λ (old : InSession). KeepsRest old (shown_session c.play.new.machine s.checkpoints s.breakpoints s.modes)) c.self.view_is
    (rest_kept s.machine c.play.new.machine s.checkpoints s.breakpoints s.modes s.numbers c.self.invariant.0 c.play.ensures.free)

pub invariant_of-self : goal.invariant_of-self
invariant_of-self c =
    let s = c.self.inside in
    let done = c.play in (
      session_kept s.machine done.new.machine (spaces_kept s.checkpoints) s.numbers c.self.invariant.0 done.ensures.kept done.ensures.free done.ensures.perms,
      c.self.invariant.1,
      breaks_kept s.machine done.new.machine s.breakpoints (stay_kept s.machine done.new.machine done.ensures.kept) c.self.invariant.2,
    )
