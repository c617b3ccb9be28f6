use Rattle.overlay_pages.specs.View.{state_of}
use Rattle.overlay_memory.proofs.Unmapping.{IsUnmapping}
use Rattle.overlay_memory.proofs.removing.unmap_pages.Given as goal

abbrev pub invariant-unmapping : goal.invariant-unmapping
invariant-unmapping l = IsUnmapping (state_of l.fn.pages) (state_of l.pages) l.space l.fn.page l.fn.n l.at l.left

abbrev pub decreases-unmapping : goal.decreases-unmapping
decreases-unmapping l = l.left
