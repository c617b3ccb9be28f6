use Rattle.std.proofs.Common.{ap, ◌∙◌, replicate, rules}
use Rattle.free_numbers.specs.declared.TheConstants.{MARK_SETS, NUMBER_SETS}
use Rattle.free_numbers.proofs.All.{all_kept, all_numbers}
use Rattle.free_numbers.proofs.numbers.FreeNumbers.new.Goals as goal

pub invariant_of-numbers : goal.invariant_of-numbers
invariant_of-numbers c = all_kept _ _ _
    (c.in_ok-vec.ensures.items_if_clones_equal (search rules) ∙ ap (replicate NUMBER_SETS) c.range-all.ensures.lines)
    (c.in_ok-vec-2.ensures.items_if_clones_equal (search rules) ∙ ap (replicate MARK_SETS) c.range-all.ensures.lines)
    (c.in_ok-vec-3.ensures.items_if_clones_equal (search rules) ∙ ap (replicate 1) c.range.ensures.lines)

pub returns : goal.returns
returns c =
    all_numbers c.in_ok-vec.field-0.items c.take.new.self
    (c.in_ok-vec.ensures.items_if_clones_equal (search rules) ∙ ap (replicate NUMBER_SETS) c.range-all.ensures.lines) c.take.ensures
