use Rattle.std.proofs.Common.{ap, ◌∙◌}
use Rattle.overlay_pages.specs.View as seen
use Rattle.overlay_memory.proofs.Truths.{none_translated, with_cache}
use Rattle.overlay_memory.proofs.Fronting.{none_known}
use Rattle.overlay_memory.proofs.memory.OverlayMemory.new.Goals as goal
use Rattle.translation_cache.specs.Bare.{bare, bare_none}
use Rattle.translation_cache.specs.declared.cached.Cached.{Cached}

pub invariant_of-result : goal.invariant_of-result
invariant_of-result c = (
  with_cache (seen.state_of c.in_ok-pages.pages) _ c.new-cache.result c.new-cache.ensures (none_translated (seen.state_of c.in_ok-pages.pages) c.in_ok-pages.ensures.state.spaces),
  none_known _ _ _ c.in_ok-fronts.ensures,
)

pub returns-clause-translations : goal.returns-clause-translations
returns-clause-translations c = ap bare c.new-cache.ensures ∙ bare_none Cached
