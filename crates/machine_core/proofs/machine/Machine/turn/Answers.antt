use Rattle.std.proofs.Common.{cond, sym, subst, ◌∙◌}
use Rattle.machine_core.specs.Machine.{StandsFor}
use Rattle.machine_core.specs.Turns.{after_turn}
use Rattle.machine_core.proofs.Plays.{spaces_kept}
use Rattle.machine_core.proofs.machine.Machine.turn.Goals as goal

pub returns-then-is_running-clause-stands : goal.returns-then-is_running-clause-stands
returns-then-is_running-clause-stands c state stands =
    subst (λ b. StandsFor c.event.new.self (cond b (after_turn state c.args.p) state)) (sym c.if-is_running.true ∙ c.is_running.ensures.stands state stands)
    (c.event.ensures.stands state stands)

pub returns-else-is_running-clause-stands : goal.returns-else-is_running-clause-stands
returns-else-is_running-clause-stands c state stands =
    subst (λ b. StandsFor c.args.self.now (cond b (after_turn state c.args.p) state)) (sym c.if-is_running.false ∙ c.is_running.ensures.stands state stands) stands

pub returns-then-is_running-clause-spaces : goal.returns-then-is_running-clause-spaces
returns-then-is_running-clause-spaces c =
    spaces_kept c.args.p c.args.self.now c.event.new.self c.requires.spaces (sym c.is_running.ensures.running ∙ c.if-is_running.true) c.event.ensures.others c.event.ensures.places
