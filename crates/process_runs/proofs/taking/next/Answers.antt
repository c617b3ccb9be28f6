use Rattle.machine_core.specs.Machine.{wholes}
use Rattle.process_runs.specs.PlaceLaws.{next_runs}
use Rattle.process_runs.proofs.taking.next.Goals as goal

pub returns-in-ByTurns-clause-runs : goal.returns-in-ByTurns-clause-runs
returns-in-ByTurns-clause-runs c =
    next_runs (wholes c.args.machine.now) c.next.result c.in-ByTurns.turns c.running.result.now c.running.ensures.each c.next.ensures.number
