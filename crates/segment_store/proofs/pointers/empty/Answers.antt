use Rattle.std.proofs.Common.{◌<◌, ◌*◌, ◌^◌, refl, ap, ◌∙◌, arith}
use Rattle.unit_map.specs.Laws.{by_order}
use Rattle.segment_store.specs.Pointers.{capacity_of}
use Rattle.segment_store.proofs.Pointing.{none_taken, word_laid}
use Rattle.segment_store.proofs.pointers.empty.Goals as goal

pub returns : goal.returns
returns c =
    let low = by_order (λ k. k < 4 → capacity_of k < 32) (λ h. omega arith) (λ h. omega arith) (λ h. omega arith) (λ h. omega arith) (λ h. absurd (omega (arith, h))) c.args.order (omega (arith, c.requires)) c.requires in
    none_taken (capacity_of c.args.order) _ low refl (word_laid c.all_free-word.result c.all_free-word.type_inv ∙ ap (λ n. n * 2 ^ 320) c.all_free-word.ensures)
