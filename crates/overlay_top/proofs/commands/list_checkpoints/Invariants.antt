use Rattle.std.proofs.Common.{◌≡◌, ◌-◌, drop, length}
use Rattle.std.specs.Prelude.{flat_map}
use Rattle.command_core.specs.Commands.{checkpoint_text}
use Rattle.overlay_top.proofs.Texts.{IsDone}
use Rattle.overlay_top.proofs.commands.list_checkpoints.Given as goal

-- what was sent, and the lines of those from the place on, are the lines of all
abbrev pub invariant-listing : goal.invariant-listing
invariant-listing g l = record {
  same : l.report.sink.ghost_name ≡ l.fn.report.sink.ghost_name;
  sound : g.K.Sink.faults l.report.sink.now ≡ g.K.Sink.faults l.fn.report.sink.now;
  text : g.K.Sink.tells → IsDone (g.K.Sink.taken l.fn.report.sink.now) (g.K.Sink.taken l.report.sink.now) (flat_map checkpoint_text (drop l.index l.session.state.checkpoints))
      (flat_map checkpoint_text l.session.state.checkpoints);
}

abbrev pub decreases-listing : goal.decreases-listing
decreases-listing g l = length l.session.state.checkpoints - l.index
