use Rattle.std.proofs.Common.{◌-◌, ◌≤◌, length}
use Rattle.machine_core.specs.Executions.{stops_in}
use Rattle.machine_core.proofs.Runs.{AreRun}
use Rattle.machine_core.proofs.Constants.{truth}
use Rattle.machine_core.proofs.stretches.run.Given as goal

abbrev pub invariant-running : goal.invariant-running
invariant-running g l = record {
  so : AreRun (truth g.row.EXTENSION) (stops_in l.stops) l.lines l.fn.view l.view l.fn.process l.process l.most l.pc l.initial.rest l.rest (l.count - length l.rest);
  within : length l.rest ≤ l.count;
}

abbrev pub decreases-running : goal.decreases-running
decreases-running g l = length l.rest
