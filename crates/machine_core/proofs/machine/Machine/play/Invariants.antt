use Rattle.std.proofs.Common.{◌-◌, length, drop}
use Rattle.machine_core.specs.Machine.{AreLike, HaveSpaces, wholes}
use Rattle.machine_core.specs.Play.{run_over}
use Rattle.machine_core.proofs.machine.Machine.play.Given as goal

abbrev pub invariant-playing : goal.invariant-playing
invariant-playing l = record {
  run : AreLike (run_over (drop l.i l.turns) (wholes l.self)) (run_over l.turns (wholes l.fn.self));
  spaces : HaveSpaces l.self;
}

abbrev pub decreases-playing : goal.decreases-playing
decreases-playing l = length l.turns - l.i
