use Rattle.std.proofs.Common.{subst, sym, refl, false}
use Rattle.ascending_numbers.specs.Rising.{left_out, not_there_yet}
use Rattle.ascending_numbers.specs.Numbers.{IsListed}
use Rattle.ascending_numbers.proofs.numbers.AscendingNumbers.take.Goals as goal

pub returns-in-Ok-clause-listed : goal.returns-in-Ok-clause-listed
returns-in-Ok-clause-listed c =
    let at = c.in-Ok.ensures.place in
    subst (IsListed c.args.p false c.args.self.now.items) (sym c.remove.ensures.items)
    (left_out c.args.self.now.items c.in-Ok.at c.args.p c.in-Ok.ensures.ascending at.0 at.1)

pub returns-in-Err-clause-listed : goal.returns-in-Err-clause-listed
returns-in-Err-clause-listed c =
    record { here = not_there_yet c.args.self.now.items c.in-Err.field-0 c.args.p c.in-Err.ensures.place; others = λ q other. refl }
