use Rattle.std.proofs.Common.{ap, subst, sym, ◌∙◌}
use Rattle.machine_core.specs.Machine.{Machine}
use Rattle.command_core.specs.Kept.{shown_session, spaces_kept}
use Rattle.command_core.specs.Sessions.{AreBreaksOf, InSession, IsSession, extended_session}
use Rattle.command_core.specs.Standing.{SessionStandsFor}
use Rattle.command_core.specs.State.{extended}
use Rattle.command_core.proofs.Extending.{session_extended, shown_extended, states_extended}
use Rattle.command_core.proofs.session.Session.set_extension.Goals as goal

pub returns-clause-set : goal.returns-clause-set
returns-clause-set c =
    let s = c.self.inside in
    ap (λ (m : Machine). shown_session m s.checkpoints s.breakpoints (record (s.modes) { extension = c.args.on })) c.set_extension.ensures.set
    ∙ shown_extended s.machine c.args.on s.checkpoints s.breakpoints s.modes ∙ ap (extended_session c.args.on) c.self.view_is

pub returns-clause-stands : goal.returns-clause-stands
returns-clause-stands c state stands =
    subst (λ (s : InSession). SessionStandsFor s (extended c.args.on state)) (sym (returns-clause-set c))
    (states_extended c.args.on c.args.self.now.state state stands)

pub invariant_of-self : goal.invariant_of-self
invariant_of-self c =
    let s = c.self.inside in
    let set = sym c.set_extension.ensures.set in (
      subst (λ (m : Machine). IsSession m (spaces_kept s.checkpoints) s.numbers) set
          (session_extended s.machine c.args.on (spaces_kept s.checkpoints) s.numbers c.self.invariant.0),
      c.self.invariant.1,
      subst (λ (m : Machine). AreBreaksOf m s.breakpoints) set c.self.invariant.2,
    )
