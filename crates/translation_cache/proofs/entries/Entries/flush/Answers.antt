use Rattle.std.proofs.Common.{rules, not, nat_eq, ap, ◌∙◌}
use Rattle.translation_cache.specs.Translations.{Entry, without_space}
use Rattle.translation_cache.specs.declared.cached.Cached.{Cached}
use Rattle.translation_cache.proofs.Caches.{retained}
use Rattle.translation_cache.proofs.entries.Entries.flush.Goals as goal

pub returns : goal.returns
returns c =
    retained _ (λ (e : Entry Cached). not (nat_eq e.space c.args.space)) _ (λ x b g y k. let h = k.called in search rules) _ _ c.retain.ensures.filtered
    ∙ ap (without_space c.args.space) c.self.view_is
