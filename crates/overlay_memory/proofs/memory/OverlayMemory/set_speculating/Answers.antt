use Rattle.std.proofs.Common.{sym, subst}
use Rattle.ledger.specs.LargeLaws.{NoneLarge}
use Rattle.overlay_pages.specs.State.{books}
use Rattle.overlay_pages.specs.View as seen
use Rattle.overlay_memory.specs.View.{AreTranslated, cached_view, state_of}
use Rattle.translation_cache.specs.Translations.{flushed}
use Rattle.overlay_memory.proofs.Truths.{flushed_lists, marked_translated, with_cache}
use Rattle.overlay_memory.proofs.Fronting.{none_known}
use Rattle.overlay_memory.proofs.memory.OverlayMemory.set_speculating.Goals as goal
use Rattle.overlay_memory.proofs.memory.OverlayMemory.set_speculating.Goals.{After-set_speculating}

-- what is true of the pages and the translations then
translated : (c : After-set_speculating) → AreTranslated (seen.state_of c.set_speculating.new.self) (flushed c.args.space c.self.inside.cache)
translated c =
    marked_translated (seen.state_of c.self.inside.pages) (seen.state_of c.set_speculating.new.self) c.args.space c.args.on c.self.inside.cache c.set_speculating.ensures
    (λ off. subst (λ m. NoneLarge (books (state_of m)) c.args.space) (sym c.self.view_is) (c.requires.small off)) c.self.invariant.0

pub invariant_of-self : goal.invariant_of-self
invariant_of-self c = (
  with_cache (seen.state_of c.set_speculating.new.self) _ c.flush.new.self c.flush.ensures.flushed (translated (goal.at.invariant_of-self c).After-set_speculating),
  none_known _ _ _ c.clear.ensures,
)

pub returns-clause-small : goal.returns-clause-small
returns-clause-small c = (translated (goal.at.returns-clause-small c).After-set_speculating).small

pub returns-clause-translations : goal.returns-clause-translations
returns-clause-translations c =
    flushed_lists c.args.space (cached_view c.self.inside.pages c.self.inside.cache) c.args.self.now c.flush.new.self c.self.view_is c.flush.ensures.flushed
