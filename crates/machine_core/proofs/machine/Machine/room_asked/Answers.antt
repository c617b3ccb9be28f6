use Rattle.std.proofs.Common.{sym, ◌∙◌}
use Rattle.machine_core.specs.Kept.{machine_of}
use Rattle.machine_core.specs.Laws.{room_shown}
use Rattle.machine_core.proofs.Requests.{room_few}
use Rattle.machine_core.proofs.machine.Machine.room_asked.Goals as goal

pub returns-clause-room : goal.returns-clause-room
returns-clause-room c =
    rw (← c.self.view_is) (c.room_in.ensures ∙ sym (room_shown (machine_of c.self.inside.extension c.self.inside.memory c.self.inside.processes) c.args.p))

pub returns-clause-few : goal.returns-clause-few
returns-clause-few c = room_few c.self.inside.processes c.args.p c.room_in.result c.room_in.ensures
