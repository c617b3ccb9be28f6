use Rattle.std.proofs.Common.{subst}
use Rattle.std.specs.List.Sorted.{IsBinarySearchResult}
use Rattle.std.specs.Ordering.{nat_cmp}
use Rattle.ascending_numbers.specs.Rising.{searched_place}
use Rattle.ascending_numbers.proofs.numbers.AscendingNumbers.place.Goals as goal

pub returns-clause-place : goal.returns-clause-place
returns-clause-place c =
    searched_place c.args.self.now.items c.args.p c.binary_search.result c.as_slice.ensures.ascending
    (subst (λ xs. IsBinarySearchResult (λ y. nat_cmp y c.args.p) xs c.binary_search.result) c.as_slice.ensures.items c.binary_search.ensures.position)
