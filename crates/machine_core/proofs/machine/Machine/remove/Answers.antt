use Rattle.std.proofs.Common.{ap, ◌∙◌}
use Rattle.machine_core.specs.Machine.{wholes, without_process}
use Rattle.machine_core.specs.Kept.{machine_of}
use Rattle.machine_core.specs.Laws.{leads, like_same, like_without, wholes_without}
use Rattle.machine_core.proofs.machine.Machine.remove.Goals as goal

pub returns-clause-after : goal.returns-clause-after
returns-clause-after c =
    let removed = ap (machine_of c.self.inside.extension c.self.inside.memory) c.remove.ensures.removed in rw (← c.self.view_is) (ap wholes removed ∙ wholes_without _ c.args.p)

pub returns-clause-stands : goal.returns-clause-stands
returns-clause-stands c =
    leads (without_process c.args.p) c.args.self.now (machine_of c.self.inside.extension c.self.inside.memory c.remove.new.processes) (like_without c.args.p)
    (like_same _ _ (returns-clause-after c))
