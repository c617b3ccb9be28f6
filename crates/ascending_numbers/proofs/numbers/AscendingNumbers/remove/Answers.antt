use Rattle.std.proofs.Common.{ap, subst, sym, ◌∙◌}
use Rattle.std.specs.List.{remove}
use Rattle.std.specs.List.Sorted.{IsStrictlyIncreasing}
use Rattle.ascending_numbers.specs.Rising.{increases, rises, rises_remove}
use Rattle.ascending_numbers.proofs.numbers.AscendingNumbers.remove.Goals as goal

pub invariant_of-self : goal.invariant_of-self
invariant_of-self c =
    let same = ap (λ n. n.items) c.self.view_is in
    let taken = c.take_at-self-inside.ensures in (
      taken.within,
      subst IsStrictlyIncreasing (ap (λ xs. remove xs c.args.at) (sym same) ∙ sym taken.taken)
          (increases 0 _ (rises_remove 0 c.args.self.now.items c.args.at (rises c.args.self.now.items (subst IsStrictlyIncreasing same c.self.invariant.1)) c.requires)),
    )
