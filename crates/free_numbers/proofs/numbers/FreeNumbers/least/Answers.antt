use Rattle.std.proofs.Common.{sym, ap, ◌∙◌, arith, length}
use Rattle.free_numbers.specs.Numbers.{is_in}
use Rattle.free_numbers.proofs.Members.{inside}
use Rattle.free_numbers.proofs.numbers.FreeNumbers.least.Goals as goal

pub least_in-at-requires-clause-there : goal.least_in-at-requires-clause-there
least_in-at-requires-clause-there c =
    let had = ap (λ sets. is_in sets c.least_in-mark.result) (sym c.deref.ensures.value) ∙ c.least_in-mark.ensures.1 in
    let there = inside c.self.inside.marks.items c.least_in-mark.result (sym (c.self.invariant.topped c.least_in-mark.result) ∙ had) in
    omega (arith, there, ap length c.deref-2.ensures.value)
