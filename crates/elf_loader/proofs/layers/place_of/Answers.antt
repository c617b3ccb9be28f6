use Rattle.std.proofs.Common.{ltb, ltb-true, ltb-false, arith, rules}
use Rattle.std.proofs.lemmas.List.Sorted.{IsPartitionPoint-from_clause, IsPartitionedBy-ltb}
use Rattle.elf_loader.specs.Layers.{page_number, no_page}
use Rattle.elf_loader.proofs.layers.place_of.Goals as goal

pub returns-clause-below : goal.returns-clause-below
returns-clause-below c =
    let parted = IsPartitionedBy-ltb page_number _ c.args.page c.requires.sorted in
    let point = IsPartitionPoint-from_clause (λ p. ltb p.page c.args.page) _ _ c.partition_point.ensures.partitioned parted (λ a r q k. search rules) in
    λ p h. ltb-true _ _ (point.0 p no_page (omega arith) h)

pub returns-clause-others : goal.returns-clause-others
returns-clause-others c =
    let parted = IsPartitionedBy-ltb page_number _ c.args.page c.requires.sorted in
    let point = IsPartitionPoint-from_clause (λ p. ltb p.page c.args.page) _ _ c.partition_point.ensures.partitioned parted (λ a r q k. search rules) in
    λ p h within. ltb-false _ _ (point.1 p no_page (omega arith) within)
