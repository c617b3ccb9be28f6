use Rattle.overlay_pages.specs.View as seen
use Rattle.overlay_memory.proofs.Fronting.{none_known}
use Rattle.overlay_memory.proofs.Truths.{same_translated}
use Rattle.overlay_memory.proofs.memory.OverlayMemory.compact.Goals as goal

pub invariant_of-self : goal.invariant_of-self
invariant_of-self c = (
  same_translated (seen.state_of c.self.inside.pages) (seen.state_of c.compact.new.self) c.self.inside.cache c.compact.ensures.state c.self.invariant.0,
  none_known _ _ _ c.clear.ensures,
)
