use Rattle.std.proofs.Common.{subst}
use Rattle.command_core.specs.Sessions.{InSession, KeepsRest}
use Rattle.command_core.specs.Kept.{shown_session, spaces_kept}
use Rattle.command_core.proofs.Breaks.{breaks_kept}
use Rattle.command_core.proofs.Places.{session_kept}
use Rattle.process_runs.specs.PlaceLaws.{stay_kept}
use Rattle.command_core.specs.Standing.{TurnsAs, ends_run, speaks}
use Rattle.command_core.proofs.Standing.{ends_as, rest_kept, speaks_as}
use Rattle.command_core.proofs.session.Session.turn_line.Goals as goal

pub returns-clause-stands : goal.returns-clause-stands
returns-clause-stands c spoke =
    let done = c.turns_to_line in
    let s = c.self.inside in
    let before : InSession = shown_session s.machine s.checkpoints s.breakpoints s.modes in
    let after : InSession = shown_session done.new.machine s.checkpoints s.breakpoints s.modes in
    subst (λ (s : InSession). TurnsAs (speaks c.args.running.now done.new.line.items done.new.running) s after) c.self.view_is
    (speaks_as before after c.args.running.now done.new.running done.new.line.items (done.ensures.says spoke)
    (rest_kept s.machine done.new.machine s.checkpoints s.breakpoints s.modes s.numbers c.self.invariant.0 done.ensures.free))

pub returns-clause-rests : goal.returns-clause-rests
returns-clause-rests c silent =
    let done = c.turns_to_line in
    let s = c.self.inside in
    let before : InSession = shown_session s.machine s.checkpoints s.breakpoints s.modes in
    let after : InSession = shown_session done.new.machine s.checkpoints s.breakpoints s.modes in
    subst (λ (s : InSession). TurnsAs (ends_run c.args.running.now done.new.running) s after) c.self.view_is
    (ends_as before after c.args.running.now done.new.running (done.ensures.ends silent)
    (rest_kept s.machine done.new.machine s.checkpoints s.breakpoints s.modes s.numbers c.self.invariant.0 done.ensures.free))

pub returns-clause-others : goal.returns-clause-others
returns-clause-others c =
    let done = c.turns_to_line in
    let s = c.self.inside in
    subst (λ (old : InSession). KeepsRest old (shown_session done.new.machine s.checkpoints s.breakpoints s.modes)) c.self.view_is
    (rest_kept s.machine done.new.machine s.checkpoints s.breakpoints s.modes s.numbers c.self.invariant.0 done.ensures.free)

pub invariant_of-self : goal.invariant_of-self
invariant_of-self c =
    let s = c.self.inside in
    let done = c.turns_to_line in (
      session_kept s.machine done.new.machine (spaces_kept s.checkpoints) s.numbers c.self.invariant.0 done.ensures.kept done.ensures.free done.ensures.perms,
      c.self.invariant.1,
      breaks_kept s.machine done.new.machine s.breakpoints (stay_kept s.machine done.new.machine done.ensures.kept) c.self.invariant.2,
    )
