use Rattle.std.proofs.Common.{subst, ◌∙◌}
use Rattle.std.specs.FinSet.{empty}
use Rattle.machine_core.specs.Machine.{StandsFor}
use Rattle.machine_core.specs.Turns.{guest_at}
use Rattle.machine_core.proofs.Stepping.{single_outcome, single_after_all}
use Rattle.machine_core.proofs.machine.Machine.execute.Goals as goal

pub returns-clause-answers : goal.returns-clause-answers
returns-clause-answers c state stands = c.execute_up_to.ensures.answers state stands ∙ single_outcome empty c.args.p (guest_at state c.args.p)

pub returns-clause-stands : goal.returns-clause-stands
returns-clause-stands c state stands =
    subst (StandsFor c.execute_up_to.new.self) (single_after_all empty c.args.p state) (c.execute_up_to.ensures.stands state stands)
