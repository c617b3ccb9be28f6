use Rattle.std.proofs.Common.{◌-◌, length}
use Rattle.overlay_pages.specs.State.{memory_of}
use Rattle.overlay_pages.specs.View.{state_of}
use Rattle.overlay_memory.proofs.ReadSoFar.{IsReadSoFar}
use Rattle.overlay_memory.proofs.reading.read_lines.Given as goal

abbrev pub invariant-reading : goal.invariant-reading
invariant-reading l = IsReadSoFar (memory_of (state_of l.pages) l.space) l.need.0 l.address l.into l.done

abbrev pub decreases-reading : goal.decreases-reading
decreases-reading l = length l.into - l.done
