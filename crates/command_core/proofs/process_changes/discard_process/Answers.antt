use Rattle.command_core.proofs.Speculating.{nothing_saved}
use Rattle.command_core.proofs.process_changes.discard_process.Goals as goal

pub returns-in-None-clause-done : goal.returns-in-None-clause-done
returns-in-None-clause-done c =
    nothing_saved c.args.p c.args.process c.args.machine.now c.args.machine.now.memory c.requires.there c.in-None.is c.requires.kept
