use Rattle.overlay_pages.specs.View as seen
use Rattle.overlay_memory.proofs.Truths.{lent_translated}
use Rattle.overlay_memory.proofs.Fronting.{none_known}
use Rattle.overlay_memory.proofs.memory.OverlayMemory.line_mut.Goals as goal

pub invariant_of-self-lent : goal.invariant_of-self-lent
invariant_of-self-lent c = λ w. (
  lent_translated c.self.inside.pages (seen.place_at c.self.inside.pages c.args.space c.args.page c.args.line) w c.self.inside.cache c.self.invariant.0,
  none_known _ _ _ c.clear.ensures,
)
