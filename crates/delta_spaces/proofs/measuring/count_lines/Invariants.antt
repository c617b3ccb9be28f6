use Rattle.std.proofs.Common.{◌-◌}
use Rattle.sizes.specs.declared.TheConstants.{PAGE_END}
use Rattle.overlay_pages.specs.State.{memory_of}
use Rattle.overlay_memory.specs.View.{state_of}
use Rattle.delta_spaces.proofs.Walking.{IsMeasuring}
use Rattle.delta_spaces.proofs.measuring.count_lines.Given as goal

abbrev pub invariant-counting : goal.invariant-counting
invariant-counting l = IsMeasuring (memory_of (state_of l.mem) l.saved) (memory_of (state_of l.mem) l.base) l.lines l.at

abbrev pub decreases-counting : goal.decreases-counting
decreases-counting l = PAGE_END - l.at
