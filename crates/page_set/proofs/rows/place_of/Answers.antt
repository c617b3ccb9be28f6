use Rattle.std.proofs.Common.{rules, IfOk, IfErr}
use Rattle.std.proofs.lemmas.List.Sorted.{answers_always}
use Rattle.number_maps.specs.Rows.{IsAt, IsGap}
use Rattle.number_maps.specs.RowLaws.{searched}
use Rattle.page_set.proofs.rows.place_of.Goals as goal

-- the closure gives a row's chunk
found : (c : goal.After-binary_search_by_key)
    → IfOk c.binary_search_by_key.result (IsAt c.args.rows.now c.args.chunk) × IfErr c.binary_search_by_key.result (IsGap c.args.rows.now c.args.chunk)
found c =
    let facts = c.binary_search_by_key.ensures in
    let by_chunk = facts.position (λ row. row.0) (answers_always _ _ _ (λ f a r g called. search rules)) in
    searched c.args.rows.now c.args.chunk c.binary_search_by_key.result c.requires facts.bound by_chunk

pub returns-clause-there : goal.returns-clause-there
returns-clause-there c = (found c).0

pub returns-clause-gap : goal.returns-clause-gap
returns-clause-gap c = (found c).1
