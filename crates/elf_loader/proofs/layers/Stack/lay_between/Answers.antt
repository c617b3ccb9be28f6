use Rattle.std.proofs.Common.{arith, ap, subst, ◌∙◌, sym, false, get_or}
use Rattle.elf_loader.specs.Layers.{Skips}
use Rattle.elf_loader.proofs.Stacking.{comes_more, comes_last}
use Rattle.elf_loader.proofs.layers.Stack.lay_between.Goals as goal

pub laying-preserved : goal.laying-preserved
laying-preserved c =
    let it = c.in_ok-lay_at.ensures in
    let same = c.as_slice.ensures.value in
    comes_more c.args.loads.now c.args.pages.now c.args.load c.args.from c.laying.at c.advance-at.result _ _ _ _ _ _
    c.requires.load c.laying.invariant it.as_many it.marked it.layered it.others
    (subst (λ full. Skips full c.advance-at.new.next.items) same c.advance-at.ensures.skips) c.advance-at.ensures.rises
    (λ q low high. ap (λ full. get_or full q false) (sym same) ∙ c.advance-at.ensures.full q low high)

pub returns : goal.returns
returns c =
    comes_last c.args.loads.now c.args.pages.now c.args.load c.args.from c.laying.at c.args.to _ _ _
    c.requires.load (omega arith) c.requires.apart c.laying.invariant
