use Rattle.std.proofs.Common.{◌≡◌, ◌-◌, ◌≤◌}
use Rattle.command_core.specs.Commands.{registers_from, registers_text}
use Rattle.overlay_top.proofs.Texts.{IsDone}
use Rattle.overlay_top.proofs.commands.send_registers.Given as goal

-- what was sent, and the lines of the registers from one on, are the lines of all
abbrev pub invariant-sending : goal.invariant-sending
invariant-sending g l = record {
  same : l.report.sink.ghost_name ≡ l.fn.report.sink.ghost_name;
  sound : g.K.Sink.faults l.report.sink.now ≡ g.K.Sink.faults l.fn.report.sink.now;
  within : l.i ≤ 32;
  text : g.K.Sink.tells → IsDone (g.K.Sink.taken l.fn.report.sink.now) (g.K.Sink.taken l.report.sink.now) (registers_from l.regs l.i (32 - l.i)) (registers_text l.regs);
}

abbrev pub decreases-sending : goal.decreases-sending
decreases-sending g l = 32 - l.i
