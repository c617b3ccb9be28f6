use Rattle.std.proofs.Common.{ap, ◌∙◌, refl}
use Rattle.std.specs.Prelude.{is_some}
use Rattle.overlay_pages.specs.View as seen
use Rattle.overlay_memory.specs.View.{state_of, cached_view}
use Rattle.overlay_pages.specs.Changes.{copied}
use Rattle.space_maps.specs.Spaces.{page_in, space_in}
use Rattle.overlay_memory.proofs.Truths.{copied_translated, flushed_lists, with_cache}
use Rattle.overlay_memory.proofs.Fronting.{none_known}
use Rattle.overlay_memory.proofs.memory.OverlayMemory.copy_commit_page.Goals as goal

pub invariant_of-self : goal.invariant_of-self
invariant_of-self c = (
  with_cache (seen.state_of c.copy_commit_page.new.self) _ c.flush.new.self c.flush.ensures.flushed
      (copied_translated (seen.state_of c.self.inside.pages) (seen.state_of c.copy_commit_page.new.self) c.args.space c.args.page (λ x frame. copied frame x) c.self.inside.cache (λ x frame. refl)
      c.copy_commit_page.ensures.placed
      (ap (λ m. is_some (page_in (state_of m) c.args.space c.args.page)) c.self.view_is ∙ c.requires.there)
      (ap (λ m. (space_in (state_of m) c.args.space).awaiting) c.self.view_is ∙ c.requires.none_awaits) c.self.invariant.0),
  none_known _ _ _ c.clear.ensures,
)

pub returns-clause-translations : goal.returns-clause-translations
returns-clause-translations c =
    flushed_lists c.args.space (cached_view c.self.inside.pages c.self.inside.cache) c.args.self.now c.flush.new.self c.self.view_is c.flush.ensures.flushed
