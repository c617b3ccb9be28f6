use Rattle.std.proofs.Common.{◌-◌}
use Rattle.sizes.specs.declared.TheConstants.{PAGE_END}
use Rattle.overlay_memory.specs.Translated.{KeepsOtherTranslations}
use Rattle.overlay_memory.specs.View.{state_of}
use Rattle.speculation.proofs.DiscardWalk.{IsDiscarding}
use Rattle.speculation.proofs.discarding.discard_all.Given as goal

abbrev pub invariant-discarding : goal.invariant-discarding
invariant-discarding l =
    record { walked : IsDiscarding (state_of l.fn.mem) (state_of l.mem) l.space l.from; lists : KeepsOtherTranslations l.space l.fn.mem l.mem }

abbrev pub decreases-discarding : goal.decreases-discarding
decreases-discarding l = PAGE_END - l.from
