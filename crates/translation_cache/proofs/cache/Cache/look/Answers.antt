use Rattle.std.proofs.Common.{ap, sym, subst, ◌∙◌, arith}
use Rattle.translation_cache.specs.Formed.{IsFormed}
use Rattle.translation_cache.specs.Translations.{found, looked}
use Rattle.translation_cache.specs.Laws.{formed_looked}
use Rattle.translation_cache.proofs.Caches.{found_is, hit_is, miss_is, translations_of}
use Rattle.translation_cache.proofs.cache.Cache.look.Goals as goal

pub invariant_of-self : goal.invariant_of-self
invariant_of-self c =
    let t = translations_of c.self.inside.sets c.self.inside.hits c.self.inside.misses in
    subst IsFormed
    (sym (hit_is t c.args.space c.args.page c.set_of.result c.saturating_add-self-inside.result c.in-Some.held c.look.new.self _
    c.set_of.ensures.set (omega (arith, c.self.invariant.count, c.set_of.ensures.inside)) c.in-Some.ensures.found c.in-Some.ensures.raised
    c.saturating_add-self-inside.ensures))
    (formed_looked c.args.space c.args.page t c.self.invariant)

pub returns-in-Some-clause-found : goal.returns-in-Some-clause-found
returns-in-Some-clause-found c =
    found_is (translations_of c.self.inside.sets c.self.inside.hits c.self.inside.misses) c.args.space c.args.page c.set_of.result _ _ c.set_of.ensures.set
    (omega (arith, c.self.invariant.count, c.set_of.ensures.inside)) c.in-Some.ensures.found
    ∙ ap (found c.args.space c.args.page) c.self.view_is

pub returns-in-Some-clause-looked : goal.returns-in-Some-clause-looked
returns-in-Some-clause-looked c =
    hit_is (translations_of c.self.inside.sets c.self.inside.hits c.self.inside.misses) c.args.space c.args.page c.set_of.result c.saturating_add-self-inside.result
    c.in-Some.held c.look.new.self _ c.set_of.ensures.set (omega (arith, c.self.invariant.count, c.set_of.ensures.inside)) c.in-Some.ensures.found
    c.in-Some.ensures.raised c.saturating_add-self-inside.ensures
    ∙ ap (looked c.args.space c.args.page) c.self.view_is

pub returns-in-None-clause-found : goal.returns-in-None-clause-found
returns-in-None-clause-found c =
    found_is (translations_of c.self.inside.sets c.self.inside.hits c.self.inside.misses) c.args.space c.args.page c.set_of.result _ _ c.set_of.ensures.set
    (omega (arith, c.self.invariant.count, c.set_of.ensures.inside)) c.in-None.ensures.found
    ∙ ap (found c.args.space c.args.page) c.self.view_is

pub returns-in-None-clause-looked : goal.returns-in-None-clause-looked
returns-in-None-clause-looked c =
    miss_is (translations_of c.self.inside.sets c.self.inside.hits c.self.inside.misses) c.args.space c.args.page c.set_of.result
    c.saturating_add-self-inside-in-None.result c.look.new.self _ c.set_of.ensures.set (omega (arith, c.self.invariant.count, c.set_of.ensures.inside)) c.in-None.ensures.found
    c.in-None.ensures.raised c.saturating_add-self-inside-in-None.ensures
    ∙ ap (looked c.args.space c.args.page) c.self.view_is
