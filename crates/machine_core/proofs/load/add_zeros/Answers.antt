use Rattle.machine_core.proofs.Adding.{zero_lists}
use Rattle.machine_core.proofs.load.add_zeros.Goals as goal

pub returns-clause-lists : goal.returns-clause-lists
returns-clause-lists c =
    zero_lists c.map_zero.result c.args.p c.args.memory.now c.map_zero.new.self c.map_zero.ensures.translations c.map_zero.ensures.kept c.requires.unseen
