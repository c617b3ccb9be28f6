use Rattle.std.proofs.Common.{◌-◌}
use Rattle.sizes.specs.declared.TheConstants.{PAGE_END}
use Rattle.overlay_memory.specs.Translated.{KeepsOtherTranslations}
use Rattle.overlay_memory.specs.View.{state_of}
use Rattle.overlay_pages.specs.State.{books}
use Rattle.page_dedup.specs.Marked.{AreMarks}
use Rattle.page_dedup.proofs.Walking.{IsSharing}
use Rattle.page_dedup.proofs.sharing.deduplicate_all.Given as goal

abbrev pub invariant-sharing : goal.invariant-sharing
invariant-sharing l = record {
  walked : IsSharing (state_of l.fn.mem) (state_of l.mem) l.space l.from l.count l.at;
  lists : KeepsOtherTranslations l.space l.fn.mem l.mem;
  marks : AreMarks (books (state_of l.mem)) l.space l.marks;
}

abbrev pub decreases-sharing : goal.decreases-sharing
decreases-sharing l = PAGE_END - l.at
