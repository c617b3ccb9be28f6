use Rattle.std.proofs.Common.{ap, subst, ◌∙◌}
use Rattle.machine_core.specs.Laws.{like_itself}
use Rattle.machine_core.specs.Machine.{AreLike, wholes}
use Rattle.machine_core.specs.Executions.{after_executions, came_to_last, steps_to}
use Rattle.breakpoints.specs.Breakpoints.{Addresses}
use Rattle.process_runs.proofs.Breaks.{stops_are}
use Rattle.process_runs.proofs.taking.execute_up_to.Goals as goal

pub returns-clause-steps : goal.returns-clause-steps
returns-clause-steps c =
    c.execute_up_to.ensures.counts (wholes c.args.machine.now) (like_itself (wholes c.args.machine.now))
    ∙ ap (λ (stops : Addresses). steps_to stops c.args.most (wholes c.args.machine.now) c.args.p) (stops_are c.args.breakpoints.now c.args.p c.of.result c.of.ensures)

pub returns-clause-outcome : goal.returns-clause-outcome
returns-clause-outcome c =
    c.execute_up_to.ensures.answers (wholes c.args.machine.now) (like_itself (wholes c.args.machine.now))
    ∙ ap (λ (stops : Addresses). came_to_last stops c.args.most (wholes c.args.machine.now) c.args.p) (stops_are c.args.breakpoints.now c.args.p c.of.result c.of.ensures)

pub returns-clause-after : goal.returns-clause-after
returns-clause-after c =
    subst (λ (stops : Addresses). AreLike (wholes c.execute_up_to.new.self) (after_executions stops c.args.most (wholes c.args.machine.now) c.args.p))
    (stops_are c.args.breakpoints.now c.args.p c.of.result c.of.ensures)
    (c.execute_up_to.ensures.stands (wholes c.args.machine.now) (like_itself (wholes c.args.machine.now)))
