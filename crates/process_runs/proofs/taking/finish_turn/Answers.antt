use Rattle.rv_execute.specs.declared.outcome.Outcome.TheVariants.{Stepped, Fault, Full}
use Rattle.machine_core.specs.Machine.{wholes}
use Rattle.machine_core.specs.BareTurns.{turn_with}
use Rattle.process_runs.proofs.Stretching.{rest_asked, rest_none}
use Rattle.process_runs.proofs.taking.finish_turn.Goals as goal

pub returns-in-Stepped-clause-turn : goal.returns-in-Stepped-clause-turn
returns-in-Stepped-clause-turn c = rest_none c.args.calls Stepped c.args.outcome _ c.args.p (wholes c.args.machine.now) c.in-Stepped.is (λ old law. law)

pub returns-in-Asked-clause-turn : goal.returns-in-Asked-clause-turn
returns-in-Asked-clause-turn c =
    let done = c.answer_request in
    rest_asked c.args.calls c.args.outcome (turn_with done.result done.new.bytes) c.args.p (wholes c.args.machine.now) (wholes done.new.machine) c.in-Asked.is done.ensures.answers

pub returns-in-Fault-clause-turn : goal.returns-in-Fault-clause-turn
returns-in-Fault-clause-turn c =
    rest_none c.args.calls (Fault c.in-Fault.kind c.in-Fault.address) c.args.outcome _ c.args.p (wholes c.args.machine.now) c.in-Fault.is (λ old law. law)

pub returns-in-Full-clause-turn : goal.returns-in-Full-clause-turn
returns-in-Full-clause-turn c =
    rest_none c.args.calls (Full c.in-Full.units c.in-Full.limit) c.args.outcome _ c.args.p (wholes c.args.machine.now) c.in-Full.is (λ old law. law)
