use Rattle.std.proofs.Common.{ap, ◌∙◌}
use Rattle.overlay_pages.specs.View as seen
use Rattle.overlay_memory.specs.View.{state_of}
use Rattle.space_maps.specs.Spaces.{space_in}
use Rattle.overlay_memory.proofs.Truths.{awaited_translated}
use Rattle.overlay_memory.proofs.Fronting.{none_known}
use Rattle.overlay_memory.proofs.memory.OverlayMemory.adopt_table.Goals as goal

pub invariant_of-self : goal.invariant_of-self
invariant_of-self c = (
  awaited_translated (seen.state_of c.self.inside.pages) (seen.state_of c.adopt_table.new.self) c.args.to c.args.table.pages c.self.inside.cache c.adopt_table.ensures
      (ap (λ m. (space_in (state_of m) c.args.to).pages) c.self.view_is ∙ c.requires.empty) c.self.invariant.0,
  none_known _ _ _ c.clear.ensures,
)
