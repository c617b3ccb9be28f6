use Rattle.std.specs.FinMap.{len}
use Rattle.overlay_pages.specs.View.{state_of}
use Rattle.overlay_memory.proofs.Emptied.{IsEmptying}
use Rattle.overlay_memory.proofs.removing.remove_pages.Given as goal
use Rattle.space_maps.specs.Spaces.{space_in}

abbrev pub invariant-removing : goal.invariant-removing
invariant-removing l = IsEmptying (state_of l.fn.pages) (state_of l.pages) l.space

abbrev pub decreases-removing : goal.decreases-removing
decreases-removing l = len (space_in (state_of l.pages) l.space).pages
