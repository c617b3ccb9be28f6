use Rattle.std.proofs.Common.{◌≡◌, ◌+◌, ◌%◌, ◌^◌, ap, ◌∙◌, arith}
use Rattle.translation_cache.specs.Translations.{counted_up, with_hits}
use Rattle.translation_cache.proofs.Caches.{translations_of}
use Rattle.translation_cache.proofs.cache.Cache.count_hit.Goals as goal

pub returns-then-self-eq0 : goal.returns-then-self-eq0
unfolding with_hits
returns-then-self-eq0 c =
    let full = c.if-self-eq0.true in
    let fits = c.self.invariant.hits_fit in
    let is : c.fill.new.count ≡ counted_up c.self.inside.hits 1 = grind (arith, full, fits, c.fill.ensures) in
    ap (λ h. translations_of c.self.inside.sets h c.self.inside.misses) is ∙ ap (with_hits 1) c.self.view_is

pub returns-else-self-eq0 : goal.returns-else-self-eq0
unfolding with_hits
returns-else-self-eq0 c =
    let more = c.if-self-eq0.false in
    let fits = c.self.invariant.hits_fit in
    let is : (c.self.inside.hits + 1) % 2 ^ 64 ≡ counted_up c.self.inside.hits 1 = grind (arith, more, fits) in
    ap (λ h. translations_of c.self.inside.sets h c.self.inside.misses) is ∙ ap (with_hits 1) c.self.view_is
