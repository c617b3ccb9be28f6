use Rattle.std.proofs.Common.{ap, ◌∙◌}
use Rattle.overlay_pages.specs.View as seen
use Rattle.overlay_memory.specs.View.{state_of, cached_view}
use Rattle.space_maps.specs.Spaces.{holds_space, space_in}
use Rattle.overlay_memory.proofs.Truths.{flushed_lists, same_translated, with_cache, zeros_translated}
use Rattle.overlay_memory.proofs.Fronting.{none_known}
use Rattle.overlay_memory.proofs.memory.OverlayMemory.map_zero.Goals as goal

pub invariant_of-self : goal.invariant_of-self
invariant_of-self c = (
  with_cache (seen.state_of c.map_zero.new.self) _ c.flush.new.self c.flush.ensures.flushed
      (zeros_translated (seen.state_of c.self.inside.pages) (seen.state_of c.map_zero.new.self) c.args.space c.args.page c.args.n _ c.self.inside.cache c.in-Ok.ensures.mapped
      (ap (λ m. holds_space (state_of m) c.args.space) c.self.view_is ∙ c.requires.there)
      (ap (λ m. (space_in (state_of m) c.args.space).awaiting) c.self.view_is ∙ c.requires.none_awaits) c.self.invariant.0),
  none_known _ _ _ c.clear.ensures,
)

pub returns-in-Ok-clause-translations : goal.returns-in-Ok-clause-translations
returns-in-Ok-clause-translations c =
    flushed_lists c.args.space (cached_view c.self.inside.pages c.self.inside.cache) c.args.self.now c.flush.new.self c.self.view_is c.flush.ensures.flushed

pub invariant_of-self-in-Err : goal.invariant_of-self-in-Err
invariant_of-self-in-Err c = (
  same_translated (seen.state_of c.self.inside.pages) (seen.state_of c.map_zero.new.self) c.self.inside.cache (ap seen.state_of c.in-Err.ensures.kept) c.self.invariant.0,
  none_known _ _ _ c.clear.ensures,
)
