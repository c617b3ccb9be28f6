use Rattle.std.proofs.Common.{◌-◌}
use Rattle.sizes.specs.declared.TheConstants.{PAGE_END}
use Rattle.overlay_pages.specs.State.{memory_of}
use Rattle.overlay_memory.specs.View.{state_of}
use Rattle.delta_spaces.specs.Gathered.{IsWalking}
use Rattle.delta_spaces.proofs.gathering.gather_pages.Given as goal

abbrev pub invariant-gathering : goal.invariant-gathering
invariant-gathering l = IsWalking (memory_of (state_of l.mem) l.saved) (memory_of (state_of l.mem) l.base) l.pages.items l.at

abbrev pub decreases-gathering : goal.decreases-gathering
decreases-gathering l = PAGE_END - l.at
