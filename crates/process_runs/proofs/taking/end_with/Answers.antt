use Rattle.std.proofs.Common.{subst}
use Rattle.machine_core.specs.BareTurns.{turn_with}
use Rattle.machine_core.specs.Machine.{wholes}
use Rattle.process_runs.specs.Turns.{FinishesTurn}
use Rattle.process_runs.proofs.taking.end_with.Goals as goal

pub returns-clause-ends : goal.returns-clause-ends
returns-clause-ends c =
    let done = c.finish_turn-came in
    let turn = turn_with done.result done.new.bytes in
    record {
      turn = turn;
      finished = subst (λ calls. FinishesTurn calls c.args.p c.args.outcome (wholes c.args.machine.now) turn (wholes done.new.machine)) c.calls.ensures done.ensures.turn;
      counted = c.count.ensures.counted turn (c.is_full.ensures done.new.bytes);
      has = c.line_of.ensures.has;
      text = c.line_of.ensures.text;
    }
