use Rattle.std.proofs.Common.{refl, subst}
use Rattle.machine_core.specs.Machine.{IsDropped, Machine, without_memory}
use Rattle.machine_core.specs.Kept.{machine_of}
use Rattle.machine_core.specs.Laws.{leads, like_same, like_without_pages, wholes_dropped}
use Rattle.machine_core.proofs.machine.Machine.drop_space.Goals as goal

pub returns-clause-dropped : goal.returns-clause-dropped
returns-clause-dropped c =
    subst (λ (m : Machine). IsDropped c.args.p m (machine_of c.self.inside.extension c.drop_space.new.self c.self.inside.processes)) c.self.view_is
    (record { spaces = c.drop_space.ensures.state; lists = c.drop_space.ensures.translations; processes = refl; extension = refl })

pub returns-clause-stands : goal.returns-clause-stands
returns-clause-stands c =
    let new = machine_of c.self.inside.extension c.drop_space.new.self c.self.inside.processes in
    leads (without_memory c.args.p) c.args.self.now new (like_without_pages c.args.p)
    (like_same _ _ (wholes_dropped c.args.p c.args.self.now new c.requires.no_process (returns-clause-dropped c)))
