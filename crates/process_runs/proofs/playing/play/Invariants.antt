use Rattle.std.proofs.Common.{◌-◌, length, drop}
use Rattle.machine_core.specs.Machine.{AreLike, wholes}
use Rattle.self_speculation.specs.Requests.{KeepsPairs}
use Rattle.process_runs.specs.Places.{HavePairs, KeepsAllPerms, KeepsFree, NoPageAwaits, OwnSpaces}
use Rattle.process_runs.specs.Played.{run_over}
use Rattle.process_runs.proofs.playing.play.Given as goal

-- the run over what is left of the list comes to that over all of it
abbrev pub invariant-playing : goal.invariant-playing
invariant-playing l = record {
  run : AreLike (run_over (drop l.i l.turns) (wholes l.machine)) (run_over l.turns (wholes l.fn.machine));
  kept : KeepsPairs l.fn.machine l.machine;
  free : KeepsFree l.fn.machine l.machine;
  perms : KeepsAllPerms l.fn.machine l.machine;
  spaces : OwnSpaces l.machine;
  awaits : NoPageAwaits l.machine;
  pairs : HavePairs l.machine;
}

abbrev pub decreases-playing : goal.decreases-playing
decreases-playing l = length l.turns - l.i
