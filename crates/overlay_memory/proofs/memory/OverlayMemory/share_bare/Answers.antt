use Rattle.std.proofs.Common.{sym, subst}
use Rattle.overlay_pages.specs.Calls.{AwaitBare}
use Rattle.overlay_pages.specs.View as seen
use Rattle.overlay_memory.specs.View.{state_of}
use Rattle.overlay_memory.proofs.Truths.{pages_shared_translated}
use Rattle.overlay_memory.proofs.Fronting.{none_known}
use Rattle.overlay_memory.proofs.memory.OverlayMemory.share_bare.Goals as goal

pub invariant_of-self : goal.invariant_of-self
invariant_of-self c = (
  pages_shared_translated c.args.from c.args.to c.args.until (seen.state_of c.self.inside.pages) (seen.state_of c.share_bare.new.self) c.self.inside.cache c.requires.differ
      c.share_bare.ensures.shared (subst (λ m. AwaitBare (state_of m) c.args.from c.args.to c.args.until) (sym c.self.view_is) c.requires.bare) c.self.invariant.0,
  none_known _ _ _ c.clear.ensures,
)
