use Rattle.std.proofs.Common.{◌≡◌, ◌<◌, ◌++◌, length, map, take, drop, get_or, ap, sym, ◌∙◌, arith}
use Rattle.std.proofs.lemmas.List.Edits.{map_over_more}
use Rattle.translation_cache.specs.Translations.{without_space}
use Rattle.translation_cache.proofs.cache.flush_all.Goals as goal

pub flushing-preserved : goal.flushing-preserved
flushing-preserved c =
    ap (λ x. Rattle.std.proofs.Common.set c.flushing.sets c.flushing.set-index x) (c.flush.ensures ∙ ap (without_space c.args.space) (sym c.set-item.is))
    ∙ map_over_more (without_space c.args.space) c.args.sets.now c.flushing.sets c.flushing.set-index c.set-item.result c.flushing-test.true c.flushing.invariant
    c.set-item.is
