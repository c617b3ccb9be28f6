use Rattle.std.proofs.Common.{◌≡◌, ℕ, ◌+◌, ◌-◌, ◌<◌, false}
use Rattle.sizes.specs.declared.TheConstants.{PAGE_END}
use Rattle.overlay_memory.specs.View.{state_of}
use Rattle.overlay_pages.specs.State.{books}
use Rattle.page_dedup.specs.Deduplicated.{has_origin_at}
use Rattle.page_dedup.proofs.sharing.has_frame.Given as goal

abbrev pub invariant-looking : goal.invariant-looking
invariant-looking l = (q : ℕ) → q < l.at → has_origin_at (books (state_of l.mem)) l.space q (l.frame + 1) ≡ false

abbrev pub decreases-looking : goal.decreases-looking
decreases-looking l = PAGE_END - l.at
