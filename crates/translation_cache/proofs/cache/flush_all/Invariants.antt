use Rattle.std.proofs.Common.{◌≡◌, ◌++◌, map, take, drop}
use Rattle.translation_cache.specs.Translations.{without_space}
use Rattle.translation_cache.proofs.cache.flush_all.Given as goal

abbrev pub invariant-flushing : goal.invariant-flushing
invariant-flushing l = l.sets ≡ map (without_space l.space) (take l.set-index l.initial.sets) ++ drop l.set-index l.initial.sets
