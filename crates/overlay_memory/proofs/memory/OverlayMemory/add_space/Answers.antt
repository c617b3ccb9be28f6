use Rattle.std.proofs.Common.{◌≡◌, ap, sym, ◌∙◌}
use Rattle.overlay_pages.specs.View as seen
use Rattle.overlay_memory.specs.View.{state_of, translations_of}
use Rattle.space_maps.specs.Spaces.{holds_space}
use Rattle.translation_cache.specs.Bare.{bare, bare_flushed}
use Rattle.translation_cache.specs.Translations.{flushed}
use Rattle.overlay_memory.proofs.Truths.{added_translated, nothing_seen, same_translated, with_cache}
use Rattle.overlay_memory.proofs.Fronting.{none_known}
use Rattle.overlay_memory.proofs.memory.OverlayMemory.add_space.Goals as goal

-- nothing of the space was translated, so what is flushed stays
same : (c : goal.After-flush) → c.flush.new.self ≡ c.self.inside.cache
same c =
    c.flush.ensures.unseen (nothing_seen (seen.state_of c.self.inside.pages) c.args.space c.self.inside.cache
    (ap (λ m. holds_space (state_of m) c.args.space) c.self.view_is ∙ c.requires.absent) c.self.invariant.0)

pub invariant_of-self : goal.invariant_of-self
invariant_of-self c = (
  with_cache (seen.state_of c.add_space.new.self) c.self.inside.cache c.flush.new.self (same c)
      (added_translated (seen.state_of c.self.inside.pages) (seen.state_of c.add_space.new.self) c.args.space c.self.inside.cache c.in-Ok.ensures.added
      (ap (λ m. holds_space (state_of m) c.args.space) c.self.view_is ∙ c.requires.absent) c.self.invariant.0),
  none_known _ _ _ c.clear.ensures,
)

pub returns-in-Ok-clause-translations : goal.returns-in-Ok-clause-translations
returns-in-Ok-clause-translations c = ap bare (same c) ∙ ap translations_of c.self.view_is

pub returns-in-Ok-clause-unseen : goal.returns-in-Ok-clause-unseen
returns-in-Ok-clause-unseen c =
    sym (bare_flushed c.args.space c.args.self.now.cache) ∙ ap (λ m. bare (flushed c.args.space m.cache)) (sym c.self.view_is)
    ∙ ap bare (sym c.flush.ensures.flushed ∙ same c) ∙ ap translations_of c.self.view_is

pub invariant_of-self-in-Err : goal.invariant_of-self-in-Err
invariant_of-self-in-Err c = (
  same_translated (seen.state_of c.self.inside.pages) (seen.state_of c.add_space.new.self) c.self.inside.cache (ap seen.state_of c.in-Err.ensures.kept) c.self.invariant.0,
  none_known _ _ _ c.clear.ensures,
)
