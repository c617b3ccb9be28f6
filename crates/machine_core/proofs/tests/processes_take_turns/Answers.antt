use Rattle.std.proofs.Common.{subst, ◌∙◌, arith}
use Rattle.machine_core.specs.Load.{Loads}
use Rattle.machine_core.proofs.tests.Starting.{have_loaded, no_process_yet, no_space_yet, none_runs}
use Rattle.machine_core.proofs.tests.processes_take_turns.Goals as goal

pub load-requires-clause-no_space : goal.load-requires-clause-no_space
load-requires-clause-no_space g c = no_space_yet _ c.in_ok-machine.machine 5 c.in_ok-machine.ensures.spaces

pub load-requires-clause-no_process : goal.load-requires-clause-no_process
load-requires-clause-no_process g c = no_process_yet c.in_ok-machine.machine 5 c.in_ok-machine.ensures.processes

pub load-requires-2-clause-no_space : goal.load-requires-2-clause-no_space
load-requires-2-clause-no_space g c =
    c.load.ensures.others.there 2 (λ same. absurd (omega (arith, same))) ∙ no_space_yet _ c.in_ok-machine.machine 2 c.in_ok-machine.ensures.spaces

pub load-requires-2-clause-no_process : goal.load-requires-2-clause-no_process
load-requires-2-clause-no_process g c =
    c.load.ensures.others.processes 2 (λ same. absurd (omega (arith, same))) ∙ no_process_yet c.in_ok-machine.machine 2 c.in_ok-machine.ensures.processes

pub play-requires : goal.play-requires
play-requires g c =
    let first = subst (Loads 5 c.as_slice-2.result.now c.in_ok-machine.machine c.load.new.self) c.pages_of.ensures c.load.ensures.loads in
    let second = subst (Loads 2 c.as_slice-3.result.now c.load.new.self c.load-2.new.self) c.pages_of-2.ensures c.load-2.ensures.loads in
    record {
      spaces = have_loaded 2 c.as_slice-3.result.now c.load.new.self c.load-2.new.self _ second
          (have_loaded 5 c.as_slice-2.result.now c.in_ok-machine.machine c.load.new.self _ first (none_runs c.in_ok-machine.machine c.in_ok-machine.ensures.processes));
    }
