use Rattle.std.proofs.Common.{◌≡◌, ◌+◌, ◌≤◌, length}
use Rattle.std.specs.FinMap.{entries}
use Rattle.sizes.specs.declared.TheConstants.{LAST_SPACE}
use Rattle.command_core.specs.Looks.{from_number}
use Rattle.overlay_top.proofs.commands.count_processes.Given as goal

-- those counted, and those from the number on, are all
abbrev pub invariant-counting : goal.invariant-counting
invariant-counting l = record {
  all : l.count + length (from_number l.from l.session.state.wholes.processes) ≡ length (entries l.session.state.wholes.processes);
  few : l.count ≤ l.from;
  low : l.from ≤ LAST_SPACE + 1;
}

abbrev pub decreases-counting : goal.decreases-counting
decreases-counting l = length (from_number l.from l.session.state.wholes.processes)
