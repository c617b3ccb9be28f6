use Rattle.std.proofs.Common.{◌-◌}
use Rattle.sizes.specs.declared.TheConstants.{PAGE_END}
use Rattle.overlay_memory.specs.Translated.{KeepsOtherTranslations}
use Rattle.overlay_memory.specs.View.{state_of}
use Rattle.promotion.proofs.CopyWalk.{IsCopying}
use Rattle.promotion.proofs.settling.copy_overlaid.Given as goal

abbrev pub invariant-copying : goal.invariant-copying
invariant-copying l =
    record { walked : IsCopying (state_of l.fn.mem) (state_of l.mem) l.space l.from; lists : KeepsOtherTranslations l.space l.fn.mem l.mem }

abbrev pub decreases-copying : goal.decreases-copying
decreases-copying l = PAGE_END - l.from
