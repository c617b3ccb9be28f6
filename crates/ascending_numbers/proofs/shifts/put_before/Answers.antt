use Rattle.std.proofs.Common.{◌≡◌, ◌+◌, ◌-◌, arith, subst}
use Rattle.std.specs.List.{CopiedTo, SameFrom}
use Rattle.ascending_numbers.proofs.Shifted.{put_down}
use Rattle.ascending_numbers.proofs.shifts.put_before.Goals as goal

pub returns-clause-put : goal.returns-clause-put
returns-clause-put c =
    let moved = c.copy_within.ensures in
    let old = c.args.numbers.now in
    let new = c.copy_within.new.self in
    let from = c.args.from in
    let count : from + c.args.at - from ≡ c.args.at = omega arith in
    put_down old new from c.args.at c.args.p c.requires.some c.requires.within moved.len
    (subst (CopiedTo old new from (from - 1)) count moved.by_index.0) (subst (λ n. SameFrom old new (from - 1 + n)) count moved.by_index.2)
