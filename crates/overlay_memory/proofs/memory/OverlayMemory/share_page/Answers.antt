use Rattle.std.proofs.Common.{ap, ◌∙◌}
use Rattle.overlay_pages.specs.View as seen
use Rattle.overlay_memory.specs.View.{state_of}
use Rattle.space_maps.specs.Spaces.{space_in}
use Rattle.overlay_memory.proofs.Truths.{page_shared_translated}
use Rattle.overlay_memory.proofs.Fronting.{none_known}
use Rattle.overlay_memory.proofs.memory.OverlayMemory.share_page.Goals as goal

pub invariant_of-self : goal.invariant_of-self
invariant_of-self c = (
  page_shared_translated (seen.state_of c.self.inside.pages) (seen.state_of c.share_page.new.self) c.args.from c.args.to c.args.page c.self.inside.cache c.share_page.ensures
      (λ x there. c.self.invariant.0.small c.args.from c.args.page x there (ap (λ m. (space_in (state_of m) c.args.from).speculating) c.self.view_is ∙ c.requires.settled)) c.self.invariant.0,
  none_known _ _ _ c.clear.ensures,
)
