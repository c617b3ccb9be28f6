use Rattle.std.proofs.Common.{ap, drop, ◌∙◌}
use Rattle.ascending_numbers.proofs.Shifted.{taken_down}
use Rattle.ascending_numbers.proofs.shifts.take_behind.Goals as goal

pub returns-clause-taken : goal.returns-clause-taken
returns-clause-taken c =
    ap (drop c.args.from) c.remove.ensures.items ∙ taken_down c.args.numbers.now.items c.args.from c.args.at c.requires.within
