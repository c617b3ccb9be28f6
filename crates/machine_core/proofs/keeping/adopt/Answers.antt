use Rattle.std.proofs.Common.{arith, subst, sym}
use Rattle.machine_core.specs.Kept.{IsListBut, KeptProcesses}
use Rattle.machine_core.proofs.Listed.{put_but}
use Rattle.machine_core.proofs.keeping.adopt.Goals as goal

pub relist-requires : goal.relist-requires
relist-requires c =
    let room = c.in_ok-reserve.ensures in
    subst (λ (m : KeptProcesses). IsListBut c.args.p m c.reserve.new.self) (sym c.in_ok-insert.ensures.inserted)
    (put_but c.args.processes.now c.args.running.now c.reserve.new.self c.args.p c.args.process c.requires.kept room.items room.more (omega (arith, room.room)))
