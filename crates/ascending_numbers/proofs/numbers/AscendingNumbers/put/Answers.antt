use Rattle.std.proofs.Common.{arith, subst, sym, refl, true}
use Rattle.ascending_numbers.specs.Rising.{fewer, found_in, joined, not_there_yet, rises}
use Rattle.ascending_numbers.specs.Numbers.{IsListed}
use Rattle.ascending_numbers.proofs.numbers.AscendingNumbers.put.Goals as goal

pub insert-requires-clause-room : goal.insert-requires-clause-room
insert-requires-clause-room c =
    let numbers = c.args.self.now in
    let absent = not_there_yet numbers.items c.in-Err.at c.args.p c.in-Err.ensures.place in
    let few = fewer 0 numbers.room c.args.p numbers.items (rises numbers.items c.in-Err.ensures.ascending) (omega arith) c.requires.below absent c.requires.all_below in
    omega (arith, few)

pub returns-in-Ok-clause-listed : goal.returns-in-Ok-clause-listed
returns-in-Ok-clause-listed c =
    let at = c.in-Ok.ensures.place in
    record { here = found_in c.args.self.now.items c.in-Ok.field-0 c.args.p at.0 at.1; others = λ q other. refl }

pub returns-in-Err-clause-listed : goal.returns-in-Err-clause-listed
returns-in-Err-clause-listed c =
    subst (IsListed c.args.p true c.args.self.now.items) (sym c.insert.ensures.items)
    (joined c.args.self.now.items c.in-Err.at c.args.p c.in-Err.ensures.place.0)
