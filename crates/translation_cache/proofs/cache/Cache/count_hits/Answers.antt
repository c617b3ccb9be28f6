use Rattle.std.proofs.Common.{ap, ◌∙◌}
use Rattle.translation_cache.specs.Translations.{with_hits}
use Rattle.translation_cache.proofs.Caches.{translations_of}
use Rattle.translation_cache.proofs.cache.Cache.count_hits.Goals as goal

pub returns : goal.returns
unfolding with_hits
returns c =
    ap (λ h. translations_of c.self.inside.sets h c.self.inside.misses) c.saturating_add-self-inside.ensures ∙ ap (with_hits c.args.n) c.self.view_is
