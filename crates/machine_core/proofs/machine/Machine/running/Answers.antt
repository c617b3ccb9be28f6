use Rattle.std.proofs.Common.{sym, subst, ◌∙◌, true, ◌≡◌}
use Rattle.std.specs.List.{All}
use Rattle.machine_core.specs.Machine.{Machine, is_running, running_numbers, wholes}
use Rattle.machine_core.specs.Laws.{answers}
use Rattle.machine_core.specs.Kept.{IsRunningList}
use Rattle.machine_core.proofs.Machines.{running_is, each_runs, numbers_both}
use Rattle.machine_core.proofs.machine.Machine.running.Goals as goal

pub returns-clause-numbers : goal.returns-clause-numbers
returns-clause-numbers c =
    let kept = subst (λ (m : Machine). IsRunningList m.processes c.self.inside.running) c.self.view_is c.self.invariant in
    c.as_slice.ensures.items ∙ running_is c.args.self.now c.self.inside.running c.as_slice.ensures.ascending kept

pub returns-clause-each : goal.returns-clause-each
returns-clause-each c =
    let kept = subst (λ (m : Machine). IsRunningList m.processes c.self.inside.running) c.self.view_is c.self.invariant in
    subst (All (λ p. is_running (wholes c.args.self.now) p ≡ true)) (sym c.as_slice.ensures.items) (each_runs c.args.self.now c.self.inside.running kept)

pub returns-clause-stands : goal.returns-clause-stands
returns-clause-stands c = answers running_numbers c.args.self.now c.as_slice.result.now numbers_both (returns-clause-numbers c)
