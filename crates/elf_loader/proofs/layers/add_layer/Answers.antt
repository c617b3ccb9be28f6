use Rattle.elf_loader.proofs.Stacking.{added, read_item}
use Rattle.elf_loader.proofs.layers.add_layer.Goals as goal

pub returns-clause-layers : goal.returns-clause-layers
returns-clause-layers c =
    added c.args.layers.now.items c.args.at c.args.load c.push.new.self c.index_mut.result.now c.requires.at c.in_ok-push.ensures.items
    (read_item c.args.layers.now.items c.args.at c.index_mut.result.now c.requires.at c.index_mut.ensures.value)
