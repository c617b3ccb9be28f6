use Rattle.machine_core.proofs.tests.Starting.{no_process_yet, no_space_yet}
use Rattle.machine_core.proofs.tests.a_load_that_needs_too_many_units_is_full.Goals as goal

pub load-requires-clause-no_space : goal.load-requires-clause-no_space
load-requires-clause-no_space g c = no_space_yet _ c.in_ok-machine.machine 1 c.in_ok-machine.ensures.spaces

pub load-requires-clause-no_process : goal.load-requires-clause-no_process
load-requires-clause-no_process g c = no_process_yet c.in_ok-machine.machine 1 c.in_ok-machine.ensures.processes
