use Rattle.std.proofs.Common.{ap, sym, subst, ◌∙◌, arith}
use Rattle.translation_cache.specs.Formed.{IsFormed}
use Rattle.translation_cache.specs.Translations.{with_cached}
use Rattle.translation_cache.specs.Laws.{formed_updated}
use Rattle.translation_cache.proofs.Caches.{translations_of, updated_is}
use Rattle.translation_cache.proofs.cache.Cache.replace.Goals as goal

pub returns-clause-replaced : goal.returns-clause-replaced
returns-clause-replaced c =
    updated_is (λ _. c.args.cached) (translations_of c.self.inside.sets c.self.inside.hits c.self.inside.misses) c.args.space c.args.page c.set_of.result
    c.replace.new.self _ c.set_of.ensures.set (omega (arith, c.self.invariant.count, c.set_of.ensures.inside)) c.replace.ensures
    ∙ ap (with_cached c.args.space c.args.page c.args.cached) c.self.view_is

pub invariant_of-self : goal.invariant_of-self
invariant_of-self c =
    let t = translations_of c.self.inside.sets c.self.inside.hits c.self.inside.misses in
    subst IsFormed
    (sym (updated_is (λ _. c.args.cached) t c.args.space c.args.page c.set_of.result c.replace.new.self _ c.set_of.ensures.set
    (omega (arith, c.self.invariant.count, c.set_of.ensures.inside)) c.replace.ensures))
    (formed_updated (λ _. c.args.cached) c.args.space c.args.page t c.self.invariant)
