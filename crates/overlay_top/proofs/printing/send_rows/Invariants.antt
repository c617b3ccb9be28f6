use Rattle.std.proofs.Common.{◌≡◌, ◌+◌, ◌<◌, ◌≤◌, length}
use Rattle.sizes.specs.declared.TheConstants.{ADDRESS_END}
use Rattle.ovl_io.specs.Memory.{Memory, bytes_at}
use Rattle.command_core.specs.Commands.{dump_text}
use Rattle.overlay_top.proofs.Texts.{IsDone}
use Rattle.overlay_top.proofs.printing.send_rows.Given as goal

-- what was sent, and the lines of what is left, are the lines of all, whatever memory they are of
abbrev pub invariant-sending : goal.invariant-sending
invariant-sending g l = record {
  same : l.report.sink.ghost_name ≡ l.fn.report.sink.ghost_name;
  sound : g.K.Sink.faults l.report.sink.now ≡ g.K.Sink.faults l.fn.report.sink.now;
  low : 0 < length l.rest → l.at + length l.rest ≤ ADDRESS_END;
  text : (memory : Memory) → l.bytes ≡ bytes_at memory l.address (length l.bytes) → (l.rest ≡ bytes_at memory l.at (length l.rest))
      × (g.K.Sink.tells → IsDone (g.K.Sink.taken l.fn.report.sink.now) (g.K.Sink.taken l.report.sink.now) (dump_text memory l.at (length l.rest))
      (dump_text memory l.address (length l.bytes)));
}

abbrev pub decreases-sending : goal.decreases-sending
decreases-sending g l = length l.rest
