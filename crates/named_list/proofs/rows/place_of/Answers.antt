use Rattle.std.proofs.Common.{rules, ◌≡◌, length, subst}
use Rattle.std.specs.List.Sorted.{IsSearchInRange}
use Rattle.std.specs.VecDeque.{deque_len}
use Rattle.std.proofs.lemmas.List.Sorted.{answers_always}
use Rattle.number_maps.specs.RowLaws.{searched}
use Rattle.named_list.proofs.rows.place_of.Goals as goal

-- the closure gives a row's number
pub returns-clause-there : goal.returns-clause-there
returns-clause-there g c =
    let lens : deque_len c.args.rows.now ≡ length c.args.rows.now.items = search rules in
    (searched c.args.rows.now.items c.args.number c.binary_search_by_key.result c.requires
    (subst (IsSearchInRange c.binary_search_by_key.result) lens c.binary_search_by_key.ensures.bound)
    (c.binary_search_by_key.ensures.position (λ row. row.0) (answers_always _ _ _ (λ f a r g called. search rules)))).0

pub returns-clause-gap : goal.returns-clause-gap
returns-clause-gap g c =
    let lens : deque_len c.args.rows.now ≡ length c.args.rows.now.items = search rules in
    (searched c.args.rows.now.items c.args.number c.binary_search_by_key.result c.requires
    (subst (IsSearchInRange c.binary_search_by_key.result) lens c.binary_search_by_key.ensures.bound)
    (c.binary_search_by_key.ensures.position (λ row. row.0) (answers_always _ _ _ (λ f a r g called. search rules)))).1
