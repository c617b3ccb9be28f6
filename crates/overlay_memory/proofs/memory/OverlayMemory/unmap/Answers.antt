use Rattle.std.proofs.Common.{sym, ap, subst, ◌∙◌}
use Rattle.overlay_pages.specs.View as seen
use Rattle.overlay_memory.specs.View.{state_of, cached_view}
use Rattle.space_maps.specs.Spaces.{space_in}
use Rattle.overlay_pages.specs.Calls.{AreMapped}
use Rattle.overlay_memory.proofs.Truths.{flushed_lists, unmapped_translated, with_cache}
use Rattle.overlay_memory.proofs.Fronting.{none_known}
use Rattle.overlay_memory.proofs.memory.OverlayMemory.unmap.Goals as goal

pub invariant_of-self : goal.invariant_of-self
invariant_of-self c = (
  with_cache (seen.state_of c.unmap_pages.new.pages) _ c.flush.new.self c.flush.ensures.flushed
      (unmapped_translated (seen.state_of c.self.inside.pages) (seen.state_of c.unmap_pages.new.pages) c.args.space c.args.page c.args.n c.self.inside.cache c.unmap_pages.ensures
      (ap (λ m. (space_in (state_of m) c.args.space).awaiting) c.self.view_is ∙ c.requires.none_awaits)
      (subst (λ m. AreMapped (state_of m) c.args.space c.args.page c.args.n) (sym c.self.view_is) c.requires.there) c.self.invariant.0),
  none_known _ _ _ c.clear.ensures,
)

pub returns-clause-translations : goal.returns-clause-translations
returns-clause-translations c =
    flushed_lists c.args.space (cached_view c.self.inside.pages c.self.inside.cache) c.args.self.now c.flush.new.self c.self.view_is c.flush.ensures.flushed
