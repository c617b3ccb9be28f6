use Rattle.overlay_pages.specs.View as seen
use Rattle.overlay_memory.specs.View.{cached_view}
use Rattle.overlay_memory.proofs.Truths.{flushed_lists, forgotten_translated, with_cache}
use Rattle.overlay_memory.proofs.Fronting.{none_known}
use Rattle.overlay_memory.proofs.memory.OverlayMemory.forget_translations.Goals as goal

pub invariant_of-self : goal.invariant_of-self
invariant_of-self c = (
  with_cache (seen.state_of c.self.inside.pages) _ c.flush.new.self c.flush.ensures.flushed
      (forgotten_translated (seen.state_of c.self.inside.pages) c.args.space c.self.inside.cache c.self.invariant.0),
  none_known _ _ _ c.clear.ensures,
)

pub returns-clause-translations : goal.returns-clause-translations
returns-clause-translations c =
    flushed_lists c.args.space (cached_view c.self.inside.pages c.self.inside.cache) c.args.self.now c.flush.new.self c.self.view_is c.flush.ensures.flushed
