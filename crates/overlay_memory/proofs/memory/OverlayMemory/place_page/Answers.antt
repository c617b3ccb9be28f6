use Rattle.std.proofs.Common.{ap, ◌∙◌, refl}
use Rattle.overlay_pages.specs.View as seen
use Rattle.overlay_memory.specs.View.{state_of}
use Rattle.space_maps.specs.Spaces.{holds_space, page_in, space_in}
use Rattle.overlay_memory.proofs.Truths.{placed_translated, same_translated}
use Rattle.overlay_memory.proofs.Fronting.{none_known}
use Rattle.overlay_memory.proofs.memory.OverlayMemory.place_page.Goals.{in-Ok, in-Err}
use Rattle.overlay_memory.proofs.memory.OverlayMemory.place_page.Goals as goal

pub invariant_of-self : goal.invariant_of-self
invariant_of-self c = (
  elim c.match-add_page.branch [
    | in-Ok w ↦
        placed_translated (seen.state_of c.self.inside.pages) (seen.state_of c.add_page.new.self) c.args.space c.args.page _ c.self.inside.cache (λ frame. refl) w.in-Ok.ensures.placed
        (ap (λ m. page_in (state_of m) c.args.space c.args.page) c.self.view_is ∙ c.requires.absent)
        (ap (λ m. holds_space (state_of m) c.args.space) c.self.view_is ∙ c.requires.there)
        (ap (λ m. (space_in (state_of m) c.args.space).awaiting) c.self.view_is ∙ c.requires.none_awaits) c.self.invariant.0
    | in-Err w ↦
        same_translated (seen.state_of c.self.inside.pages) (seen.state_of c.add_page.new.self) c.self.inside.cache w.in-Err.ensures.kept c.self.invariant.0
  ],
  none_known _ _ _ c.clear.ensures,
)
