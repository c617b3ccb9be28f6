use Rattle.std.proofs.Common.{◌≡◌}
use Rattle.machine_core.specs.Machine.{AreLike}
use Rattle.process_runs.specs.Turns.{left_of, lines_left, ran_text}
use Rattle.overlay_top.proofs.Texts.{IsDone}
use Rattle.overlay_top.proofs.commands.take_turns.Given as goal

-- what was sent, and what the turns that are left say, is what all say
abbrev pub invariant-turns : goal.invariant-turns
invariant-turns g l = record {
  same : l.report.sink.ghost_name ≡ l.fn.report.sink.ghost_name;
  sound : g.K.Sink.faults l.report.sink.now ≡ g.K.Sink.faults l.fn.report.sink.now;
  checkpoints : l.session.state.checkpoints ≡ l.fn.session.state.checkpoints;
  breakpoints : l.session.state.breakpoints ≡ l.fn.session.state.breakpoints;
  modes : l.session.modes ≡ l.fn.session.modes;
  after : AreLike (left_of l.fn.session.state.breakpoints l.fn.session.state.wholes l.fn.running).after (left_of l.fn.session.state.breakpoints l.session.state.wholes l.running).after;
  text : g.K.Sink.tells → IsDone (g.K.Sink.taken l.fn.report.sink.now) (g.K.Sink.taken l.report.sink.now) (ran_text (left_of l.fn.session.state.breakpoints l.session.state.wholes l.running))
      (ran_text (left_of l.fn.session.state.breakpoints l.fn.session.state.wholes l.fn.running));
}

abbrev pub decreases-turns : goal.decreases-turns
decreases-turns g l = lines_left l.running
