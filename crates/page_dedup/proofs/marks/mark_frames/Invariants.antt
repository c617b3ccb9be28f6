use Rattle.std.proofs.Common.{◌-◌}
use Rattle.sizes.specs.declared.TheConstants.{PAGE_END}
use Rattle.overlay_memory.specs.View.{state_of}
use Rattle.overlay_pages.specs.State.{books}
use Rattle.page_dedup.specs.Marked.{AreMarksBelow}
use Rattle.page_dedup.proofs.marks.mark_frames.Given as goal

abbrev pub invariant-marking : goal.invariant-marking
invariant-marking l = AreMarksBelow (books (state_of l.mem)) l.space l.at l.marks

abbrev pub decreases-marking : goal.decreases-marking
decreases-marking l = PAGE_END - l.at
