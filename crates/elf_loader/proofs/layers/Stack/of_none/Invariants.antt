use Rattle.elf_loader.specs.Layers.{AreUnfilled}
use Rattle.elf_loader.proofs.layers.Stack.of_none.Given as goal

abbrev pub invariant-loop-at : goal.invariant-loop-at
invariant-loop-at l = AreUnfilled l.at l.layers.items l.full.items l.next.items
