use Rattle.machine_core.specs.BareTurns.{turn_with}
use Rattle.process_runs.specs.PlaceLaws.{free_stays, perms_stay, process_there}
use Rattle.process_runs.proofs.Ports.{answer_port}
use Rattle.process_runs.proofs.taking.answer_request.Goals as goal

pub returns-clause-port : goal.returns-clause-port
returns-clause-port c = answer_port c.args.machine.now c.args.p (turn_with c.answer.result c.answer.new.bytes) c.answer.ensures.came

pub returns-clause-free : goal.returns-clause-free
returns-clause-free c =
    let old = c.args.machine.now in
    free_stays c.args.p old c.answer.new.machine c.answer.ensures.others (process_there old c.args.p c.requires.runs) c.answer.ensures.unseen

pub returns-clause-perms : goal.returns-clause-perms
returns-clause-perms c = perms_stay c.args.p c.args.machine.now c.answer.new.machine c.answer.ensures.others c.answer.ensures.perms
