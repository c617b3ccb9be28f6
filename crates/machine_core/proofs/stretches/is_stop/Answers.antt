use Rattle.std.proofs.Common.{ap, sym}
use Rattle.machine_core.proofs.Constants.{truth}
use Rattle.machine_core.proofs.Runs.{no_stop}
use Rattle.machine_core.proofs.stretches.is_stop.Goals as goal

pub returns-in-None : goal.returns-in-None
returns-in-None g c = sym (no_stop c.args.stops c.args.address c.in-None.is)

pub returns-then-not-this : goal.returns-then-not-this
returns-then-not-this g c = sym (no_stop c.args.stops c.args.address (c.requires.unstopped (ap truth c.if-not-this.true)))
