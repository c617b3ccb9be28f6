use Rattle.machine_core.proofs.Listed.{none_listed}
use Rattle.machine_core.proofs.machine.Machine.new.Goals as goal

pub invariant_of-result : goal.invariant_of-result
invariant_of-result c = none_listed c.new-2.result c.new-3.result c.new-2.ensures c.new-3.ensures
