use Rattle.machine_core.specs.Machine.{wholes}
use Rattle.process_runs.proofs.Breaks.{no_break}
use Rattle.process_runs.proofs.taking.break_of.Goals as goal

pub returns-in-None : goal.returns-in-None
returns-in-None c = no_break c.args.breakpoints.now (wholes c.args.machine.now) c.args.p c.in-None.ensures
