use Rattle.std.proofs.Common.{ap, ◌∙◌}
use Rattle.machine_core.specs.Machine.{Machine, wholes, with_extension, with_extension_at}
use Rattle.machine_core.specs.Laws.{leads, like_extended, like_same, wholes_extended}
use Rattle.machine_core.proofs.machine.Machine.set_extension.Goals as goal

pub returns-clause-after : goal.returns-clause-after
returns-clause-after c =
    ap (λ (m : Machine). wholes (with_extension_at m c.args.on)) c.self.view_is ∙ wholes_extended c.args.self.now c.args.on

pub returns-clause-stands : goal.returns-clause-stands
returns-clause-stands c = leads (with_extension c.args.on) c.args.self.now _ (like_extended c.args.on) (like_same _ _ (returns-clause-after c))
