use Rattle.std.proofs.Common.{ap, sym, subst, ◌∙◌, arith}
use Rattle.translation_cache.specs.Formed.{IsFormed}
use Rattle.translation_cache.specs.Translations.{with_bit, cached_with}
use Rattle.translation_cache.specs.Laws.{formed_updated}
use Rattle.translation_cache.proofs.Caches.{translations_of, updated_is}
use Rattle.translation_cache.proofs.cache.Cache.set_bit.Goals as goal

pub returns-clause-bit : goal.returns-clause-bit
returns-clause-bit c =
    updated_is (cached_with c.args.line) (translations_of c.self.inside.sets c.self.inside.hits c.self.inside.misses) c.args.space c.args.page c.set_of.result
    c.set_bit.new.self _ c.set_of.ensures.set (omega (arith, c.self.invariant.count, c.set_of.ensures.inside)) c.set_bit.ensures
    ∙ ap (with_bit c.args.space c.args.page c.args.line) c.self.view_is

pub invariant_of-self : goal.invariant_of-self
invariant_of-self c =
    let t = translations_of c.self.inside.sets c.self.inside.hits c.self.inside.misses in
    subst IsFormed
    (sym (updated_is (cached_with c.args.line) t c.args.space c.args.page c.set_of.result c.set_bit.new.self _ c.set_of.ensures.set
    (omega (arith, c.self.invariant.count, c.set_of.ensures.inside)) c.set_bit.ensures))
    (formed_updated (cached_with c.args.line) c.args.space c.args.page t c.self.invariant)
