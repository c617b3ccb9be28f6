use Rattle.std.proofs.Common.{◌-◌}
use Rattle.elf_loader.specs.Layers.{items_of}
use Rattle.elf_loader.proofs.Stacking.{Comes}
use Rattle.elf_loader.proofs.layers.Stack.lay_between.Given as goal

abbrev pub invariant-laying : goal.invariant-laying
invariant-laying l = Comes l.loads l.pages l.load l.from l.at (items_of l.self.layers.items) l.self.full.items l.self.next.items

abbrev pub decreases-laying : goal.decreases-laying
decreases-laying l = l.to - l.at
