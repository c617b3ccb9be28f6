use Rattle.std.proofs.Common.{subst}
use Rattle.command_core.specs.Sessions.{InSession, KeepsRest}
use Rattle.command_core.specs.Kept.{shown_session, spaces_kept}
use Rattle.command_core.proofs.Breaks.{breaks_kept}
use Rattle.command_core.proofs.Places.{session_kept}
use Rattle.process_runs.specs.PlaceLaws.{stay_kept}
use Rattle.command_core.specs.Standing.{TurnsAs, takes_turn}
use Rattle.command_core.proofs.Standing.{rest_kept, turns_as}
use Rattle.command_core.proofs.session.Session.turn.Goals as goal

pub returns-clause-stands : goal.returns-clause-stands
returns-clause-stands c =
    let s = c.self.inside in
    let before : InSession = shown_session s.machine s.checkpoints s.breakpoints s.modes in
    let after : InSession = shown_session c.next_turn.new.machine s.checkpoints s.breakpoints s.modes in
    subst (λ (s : InSession). TurnsAs (takes_turn c.args.running.now c.next_turn.result c.next_turn.new.running) s after) c.self.view_is
    (turns_as before after c.args.running.now c.next_turn.new.running c.next_turn.result c.next_turn.ensures.turn
    (rest_kept s.machine c.next_turn.new.machine s.checkpoints s.breakpoints s.modes s.numbers c.self.invariant.0 c.next_turn.ensures.free))

pub returns-clause-others : goal.returns-clause-others
returns-clause-others c =
    let s = c.self.inside in
    subst (λ (old : InSession). KeepsRest old (shown_session c.next_turn.new.machine s.checkpoints s.breakpoints s.modes)) c.self.view_is
    (rest_kept s.machine c.next_turn.new.machine s.checkpoints s.breakpoints s.modes s.numbers c.self.invariant.0 c.next_turn.ensures.free)

pub invariant_of-self : goal.invariant_of-self
invariant_of-self c =
    let s = c.self.inside in
    let done = c.next_turn in (
      session_kept s.machine done.new.machine (spaces_kept s.checkpoints) s.numbers c.self.invariant.0 done.ensures.kept done.ensures.free done.ensures.perms,
      c.self.invariant.1,
      breaks_kept s.machine done.new.machine s.breakpoints (stay_kept s.machine done.new.machine done.ensures.kept) c.self.invariant.2,
    )
