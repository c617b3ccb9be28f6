use Rattle.std.proofs.Common.{◌-◌}
use Rattle.overlay_memory.specs.View.{state_of}
use Rattle.overlay_memory.proofs.Unmapping.{IsGoing}
use Rattle.overlay_memory.proofs.memory.OverlayMemory.first_absent.Given as goal

abbrev pub invariant-going : goal.invariant-going
invariant-going l = IsGoing (state_of l.fn.self) l.space l.page l.at

abbrev pub decreases-going : goal.decreases-going
decreases-going l = l.end - l.at
