use Rattle.std.proofs.Common.{◌≡◌, ◌+◌, ◌≤◌, length}
use Rattle.std.specs.Prelude.{flat_map}
use Rattle.std.specs.FinMap.{entries}
use Rattle.sizes.specs.declared.TheConstants.{LAST_SPACE}
use Rattle.command_core.specs.Commands.{process_text}
use Rattle.command_core.specs.Looks.{from_number}
use Rattle.overlay_top.proofs.Texts.{IsDone}
use Rattle.overlay_top.proofs.commands.list_processes.Given as goal

-- what was sent, and the lines of those from the number on, are the lines of all
abbrev pub invariant-listing : goal.invariant-listing
invariant-listing g l = record {
  same : l.report.sink.ghost_name ≡ l.fn.report.sink.ghost_name;
  sound : g.K.Sink.faults l.report.sink.now ≡ g.K.Sink.faults l.fn.report.sink.now;
  low : l.from ≤ LAST_SPACE + 1;
  text : g.K.Sink.tells → IsDone (g.K.Sink.taken l.fn.report.sink.now) (g.K.Sink.taken l.report.sink.now) (flat_map process_text (from_number l.from l.session.state.wholes.processes))
      (flat_map process_text (entries l.session.state.wholes.processes));
}

abbrev pub decreases-listing : goal.decreases-listing
decreases-listing g l = length (from_number l.from l.session.state.wholes.processes)
