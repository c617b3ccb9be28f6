use Rattle.std.proofs.Common.{◌≡◌, length}
use Rattle.image_lines.specs.Lines.{printed}
use Rattle.overlay_top.proofs.Texts.{IsDone}
use Rattle.overlay_top.proofs.printing.send_image_lines.Given as goal

-- what was sent, and the lines of what is left, are the lines of all
abbrev pub invariant-sending : goal.invariant-sending
invariant-sending g l = record {
  same : l.report.sink.ghost_name ≡ l.fn.report.sink.ghost_name;
  sound : g.K.Sink.faults l.report.sink.now ≡ g.K.Sink.faults l.fn.report.sink.now;
  text : g.K.Sink.tells → IsDone (g.K.Sink.taken l.fn.report.sink.now) (g.K.Sink.taken l.report.sink.now) (printed l.rest) (printed l.image);
}

abbrev pub decreases-sending : goal.decreases-sending
decreases-sending g l = length l.rest
