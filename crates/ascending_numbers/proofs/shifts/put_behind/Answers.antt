use Rattle.std.proofs.Common.{arith, ap, drop, rules, ◌∙◌}
use Rattle.std.specs.List.{insert}
use Rattle.ascending_numbers.proofs.Shifted.{put_up}
use Rattle.ascending_numbers.proofs.shifts.put_behind.Goals as goal

pub returns-clause-put : goal.returns-clause-put
returns-clause-put c =
    let opened = c.open_end-start.ensures in
    ap (drop c.open_end-start.result) (search rules)
    ∙ put_up c.open_end-start.new.numbers.items c.open_end-start.result c.args.at c.args.p (omega (arith, opened.count, opened.within, c.requires.within))
    ∙ ap (λ xs. insert xs c.args.at c.args.p) opened.same
