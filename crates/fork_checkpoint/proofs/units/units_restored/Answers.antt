use Rattle.overlay_memory.specs.View.{state_of}
use Rattle.fork_checkpoint.proofs.Shares.{restored_units}
use Rattle.fork_checkpoint.proofs.units.units_restored.Goals as goal

pub returns-clause-sum : goal.returns-clause-sum
returns-clause-sum c =
    restored_units (state_of c.args.mem.now) c.args.saved c.args.into c.units_copied.result c.units_without-left.result c.requires.differ c.units_without-left.ensures.sum
    c.units_copied.ensures.sum
