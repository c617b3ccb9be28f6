use Rattle.std.proofs.Common.{◌≤◌, length}
use Rattle.elf_loader.specs.Layers.{IsLaid}
use Rattle.elf_loader.proofs.layers.layers_of.Given as goal

abbrev pub invariant-laying : goal.invariant-laying
invariant-laying l = (l.load ≤ length l.loads) × IsLaid l.loads l.pages l.load l.stack.layers.items l.stack.full.items l.stack.next.items

abbrev pub decreases-laying : goal.decreases-laying
decreases-laying l = l.load
