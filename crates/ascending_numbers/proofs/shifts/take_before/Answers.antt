use Rattle.std.proofs.Common.{◌≡◌, ◌+◌, ◌-◌, arith, subst}
use Rattle.std.specs.List.{CopiedTo, SameFrom}
use Rattle.ascending_numbers.proofs.Shifted.{taken_up}
use Rattle.ascending_numbers.proofs.shifts.take_before.Goals as goal

pub returns-clause-taken : goal.returns-clause-taken
returns-clause-taken c =
    let moved = c.copy_within.ensures in
    let old = c.args.numbers.now in
    let new = c.copy_within.new.self in
    let from = c.args.from in
    let count : from + c.args.at - from ≡ c.args.at = omega arith in
    taken_up old new from c.args.at c.requires.within moved.len
    (subst (CopiedTo old new from (from + 1)) count moved.by_index.0) (subst (λ n. SameFrom old new (from + 1 + n)) count moved.by_index.2)
