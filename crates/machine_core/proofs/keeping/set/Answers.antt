use Rattle.std.proofs.Common.{arith, refl}
use Rattle.machine_core.proofs.Listed.{put_but}
use Rattle.machine_core.proofs.keeping.set.Goals as goal

pub relist-requires : goal.relist-requires
relist-requires c =
    put_but c.args.processes.now c.args.running.now c.args.running.now c.args.p c.args.process c.requires.kept refl (omega arith)
    (c.requires.kept.room c.args.p c.requires.there)
