use Rattle.std.proofs.Common.{subst, sym}
use Rattle.machine_core.specs.Kept.{IsListBut, KeptProcesses}
use Rattle.machine_core.proofs.Listed.{removed_but}
use Rattle.machine_core.proofs.keeping.remove.Goals as goal

pub relist-requires : goal.relist-requires
relist-requires c =
    subst (λ (m : KeptProcesses). IsListBut c.args.p m c.args.running.now) (sym c.remove.ensures) (removed_but c.args.processes.now c.args.running.now c.args.p c.requires.kept)
