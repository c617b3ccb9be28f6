use Rattle.std.proofs.Common.{◌≡◌, subst, arith}
use Rattle.elf_loader.specs.Layers.{IsLaid}
use Rattle.elf_loader.proofs.Stacking.{stands_all}
use Rattle.elf_loader.proofs.layers.layers_of.Goals as goal

pub returns : goal.returns
returns c =
    let stack = c.laying.stack in
    let none : c.laying.load ≡ 0 = omega arith in
    stands_all c.args.loads.now c.args.pages.now stack.layers.items stack.full.items stack.next.items
    (subst (λ n. IsLaid c.args.loads.now c.args.pages.now n stack.layers.items stack.full.items stack.next.items) none c.laying.invariant.1)
