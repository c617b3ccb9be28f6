use Rattle.std.proofs.Common.{◌≡◌, ◌≤◌, [], None}
use Rattle.machine_core.specs.Machine.{wholes}
use Rattle.self_speculation.specs.Requests.{KeepsPairs}
use Rattle.process_runs.specs.Places.{HavePairs, KeepsAllPerms, KeepsFree, NoPageAwaits, OwnSpaces}
use Rattle.process_runs.specs.Turns.{Speaks, lines_left}
use Rattle.process_runs.proofs.taking.quiet_turns.Given as goal

-- the turns so far had no line: what is left comes to what all come to
abbrev pub invariant-quiet : goal.invariant-quiet
invariant-quiet l = record {
  so_far : Speaks l.breakpoints (wholes l.fn.machine) l.fn.running [] (wholes l.machine) l.running;
  fewer : lines_left l.running ≤ lines_left l.fn.running;
  goes : l.running.stop ≡ None;
  asked : l.running.run.turns ≡ l.fn.running.run.turns;
  kept : KeepsPairs l.fn.machine l.machine;
  free : KeepsFree l.fn.machine l.machine;
  perms : KeepsAllPerms l.fn.machine l.machine;
  spaces : OwnSpaces l.machine;
  awaits : NoPageAwaits l.machine;
  pairs : HavePairs l.machine;
}

abbrev pub decreases-quiet : goal.decreases-quiet
decreases-quiet l = lines_left l.running
