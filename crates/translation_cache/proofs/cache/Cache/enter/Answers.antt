use Rattle.std.proofs.Common.{ap, sym, subst, ◌∙◌, arith}
use Rattle.translation_cache.specs.Formed.{IsFormed}
use Rattle.translation_cache.specs.Translations.{entered, found}
use Rattle.translation_cache.specs.Laws.{formed_entered}
use Rattle.translation_cache.proofs.Caches.{entered_is, translations_of}
use Rattle.translation_cache.proofs.cache.Cache.enter.Goals as goal

pub returns : goal.returns
returns c =
    entered_is (translations_of c.self.inside.sets c.self.inside.hits c.self.inside.misses) c.args.space c.args.page c.set_of.result c.args.cached
    c.put_first.new.self _ c.set_of.ensures.set (omega (arith, c.self.invariant.count, c.set_of.ensures.inside)) c.put_first.ensures
    ∙ ap (entered c.args.space c.args.page c.args.cached) c.self.view_is

pub invariant_of-self : goal.invariant_of-self
invariant_of-self c =
    let t = translations_of c.self.inside.sets c.self.inside.hits c.self.inside.misses in
    subst IsFormed
    (sym (entered_is t c.args.space c.args.page c.set_of.result c.args.cached c.put_first.new.self _ c.set_of.ensures.set
    (omega (arith, c.self.invariant.count, c.set_of.ensures.inside)) c.put_first.ensures))
    (formed_entered c.args.space c.args.page c.args.cached t c.self.invariant (ap (found c.args.space c.args.page) c.self.view_is ∙ c.requires.absent))
