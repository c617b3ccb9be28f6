use Rattle.machine_core.specs.Kept.{machine_of}
use Rattle.machine_core.proofs.Machines.{next_is}
use Rattle.machine_core.proofs.machine.Machine.next_process.Goals as goal

pub returns : goal.returns
returns c =
    rw (← c.self.view_is) (next_is (machine_of c.self.inside.extension c.self.inside.memory c.self.inside.processes) c.args.from c.next_from.result c.next_from.ensures)
