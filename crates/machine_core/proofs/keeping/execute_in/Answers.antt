use Rattle.std.proofs.Common.{arith, sym, ap, ◌∙◌}
use Rattle.machine_core.specs.Executions.{all_executed, last_outcome, steps_of, stops_in}
use Rattle.machine_core.specs.Kept.{machine_of}
use Rattle.machine_core.specs.Laws.{like_came, like_executions, like_steps}
use Rattle.machine_core.specs.Machine.{wholes}
use Rattle.machine_core.proofs.Listed.{runs_put}
use Rattle.machine_core.proofs.Machines.{changed, guest_is, none_runs, state_is}
use Rattle.machine_core.proofs.Constants.{truth}
use Rattle.machine_core.proofs.keeping.execute_in.Goals as goal

pub unreachable-requires : goal.unreachable-requires
unreachable-requires g c = none_runs (machine_of (truth g.row.EXTENSION) c.args.memory.now c.args.processes.now) c.args.p (sym c.in-None.ensures.value) c.requires.runs

pub execute_up_to-came-requires : goal.execute_up_to-came-requires
execute_up_to-came-requires g c = (
  omega arith,
  (state_is (machine_of (truth g.row.EXTENSION) c.args.memory.now c.args.processes.now) c.args.p c.in-Some.process.now (sym c.in-Some.ensures.value) c.requires.runs, (c.requires.there, c.requires.none_awaits)),
)

pub returns-clause-counts : goal.returns-clause-counts
returns-clause-counts g c state stands =
    let old = machine_of (truth g.row.EXTENSION) c.args.memory.now c.args.processes.now in
    c.execute_up_to-came.ensures.ends.steps
    ∙ sym (ap (steps_of (stops_in c.args.stops) c.args.p c.args.most) (guest_is old c.args.p c.in-Some.process.now (sym c.in-Some.ensures.value)))
    ∙ like_steps c.args.p (wholes old) state stands (stops_in c.args.stops) c.args.most

pub returns-clause-answers : goal.returns-clause-answers
returns-clause-answers g c state stands =
    let old = machine_of (truth g.row.EXTENSION) c.args.memory.now c.args.processes.now in
    c.execute_up_to-came.ensures.ends.outcome_is
    ∙ sym (ap (last_outcome (stops_in c.args.stops) c.args.p c.args.most) (guest_is old c.args.p c.in-Some.process.now (sym c.in-Some.ensures.value)))
    ∙ like_came c.args.p (wholes old) state stands (stops_in c.args.stops) c.args.most

pub returns-clause-changed : goal.returns-clause-changed
returns-clause-changed g c =
    let done = c.execute_up_to-came.ensures in
    changed (all_executed (stops_in c.args.stops) c.args.p c.args.most)
    (λ g h like. (like_executions (stops_in c.args.stops) c.args.p c.args.most g h like).after) c.args.p (machine_of (truth g.row.EXTENSION) c.args.memory.now c.args.processes.now) c.execute_up_to-came.new.memory
    c.in-Some.process.now c.execute_up_to-came.new.process (sym c.in-Some.ensures.value) done.ends.after_is done.saved done.beside

pub returns-clause-runs : goal.returns-clause-runs
returns-clause-runs g c = c.is_running.ensures ∙ sym (runs_put c.args.processes.now c.args.p c.execute_up_to-came.new.process)
