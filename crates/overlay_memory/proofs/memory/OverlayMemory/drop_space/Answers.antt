use Rattle.std.proofs.Common.{ap, ◌∙◌}
use Rattle.overlay_pages.specs.View as seen
use Rattle.overlay_memory.specs.View.{state_of, cached_view}
use Rattle.space_maps.specs.Spaces.{space_in}
use Rattle.overlay_memory.proofs.Truths.{cut_translated, flushed_lists, nothing_flushed, with_cache}
use Rattle.overlay_memory.proofs.Fronting.{none_known}
use Rattle.overlay_memory.proofs.memory.OverlayMemory.drop_space.Goals as goal

pub invariant_of-self : goal.invariant_of-self
invariant_of-self c = (
  with_cache (seen.state_of c.end_space.new.self) _ c.flush.new.self c.flush.ensures.flushed
      (cut_translated (seen.state_of c.self.inside.pages) (seen.state_of c.end_space.new.self) c.args.space c.self.inside.cache
      (c.end_space.ensures ∙ c.remove_pages.ensures.cut) c.self.invariant.0),
  none_known _ _ _ c.clear.ensures,
)

pub returns-clause-translations : goal.returns-clause-translations
returns-clause-translations c =
    flushed_lists c.args.space (cached_view c.self.inside.pages c.self.inside.cache) c.args.self.now c.flush.new.self c.self.view_is c.flush.ensures.flushed

pub returns-clause-none : goal.returns-clause-none
returns-clause-none c = λ none.
    nothing_flushed c.args.space (cached_view c.self.inside.pages c.self.inside.cache) c.args.self.now c.flush.new.self c.self.view_is c.flush.ensures.flushed
    c.flush.ensures.formed (ap (λ m. (space_in (state_of m) c.args.space).pages) c.self.view_is ∙ none) c.self.invariant.0.entries
