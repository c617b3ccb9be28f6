use Rattle.std.proofs.Common.{◌+◌, ◌*◌, ap}
use Rattle.machine_core.proofs.Constants.{truth}
use Rattle.machine_core.proofs.Runs.{no_stop}
use Rattle.machine_core.proofs.stretches.count_from.Goals as goal

pub returns-in-None-clause-past : goal.returns-in-None-clause-past
returns-in-None-clause-past g c k some below = no_stop c.args.stops (c.args.pc + 4 * k) c.in-None.is

pub returns-then-not-this-clause-past : goal.returns-then-not-this-clause-past
returns-then-not-this-clause-past g c k some below = no_stop c.args.stops (c.args.pc + 4 * k) (c.requires.unstopped (ap truth c.if-not-this.true))
