use Rattle.std.proofs.Common.{rules}
use Rattle.translation_cache.proofs.Caches.{none_is}
use Rattle.translation_cache.proofs.cache.Cache.new.Goals as goal

pub returns : goal.returns
returns c = none_is c.from_fn.result c.from_fn.ensures.items.long (λ i d less. let k = (c.from_fn.ensures.items.at i d less).2 in search rules)
