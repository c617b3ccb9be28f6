use Rattle.std.proofs.Common.{ap, subst, sym}
use Rattle.command_core.specs.Sessions.{InSession, called_session}
use Rattle.command_core.specs.Standing.{SessionStandsFor}
use Rattle.command_core.proofs.session.Session.set_calls.Goals as goal

pub returns-clause-set : goal.returns-clause-set
returns-clause-set c = ap (called_session c.args.on) c.self.view_is

pub returns-clause-stands : goal.returns-clause-stands
returns-clause-stands c state stands = subst (λ (s : InSession). SessionStandsFor s state) (sym (returns-clause-set c)) stands
