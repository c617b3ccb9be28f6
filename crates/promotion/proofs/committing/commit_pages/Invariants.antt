use Rattle.std.proofs.Common.{◌-◌}
use Rattle.sizes.specs.declared.TheConstants.{PAGE_END}
use Rattle.overlay_memory.specs.Translated.{KeepsOtherTranslations}
use Rattle.overlay_memory.specs.View.{state_of}
use Rattle.promotion.proofs.PageWalk.{IsSettling}
use Rattle.promotion.proofs.committing.commit_pages.Given as goal

abbrev pub invariant-committing : goal.invariant-committing
invariant-committing l =
    record { walked : IsSettling (state_of l.fn.mem) (state_of l.mem) l.space l.from; lists : KeepsOtherTranslations l.space l.fn.mem l.mem }

abbrev pub decreases-committing : goal.decreases-committing
decreases-committing l = PAGE_END - l.from
