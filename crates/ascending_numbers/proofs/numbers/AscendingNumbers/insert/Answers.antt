use Rattle.std.proofs.Common.{ap, subst, sym, ◌∙◌}
use Rattle.std.specs.List.{insert}
use Rattle.std.specs.List.Sorted.{IsStrictlyIncreasing}
use Rattle.ascending_numbers.specs.Rising.{put_in_place}
use Rattle.ascending_numbers.proofs.numbers.AscendingNumbers.insert.Goals as goal

pub invariant_of-self : goal.invariant_of-self
invariant_of-self c =
    let same = ap (λ n. n.items) c.self.view_is in
    let put = c.put_at-self-inside.ensures in (
      put.within,
      subst IsStrictlyIncreasing (ap (λ xs. insert xs c.args.at c.args.p) (sym same) ∙ sym put.put)
          (put_in_place c.args.self.now.items c.args.at c.args.p (subst IsStrictlyIncreasing same c.self.invariant.1) c.requires.place),
    )
