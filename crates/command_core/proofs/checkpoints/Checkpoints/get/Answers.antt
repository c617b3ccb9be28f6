use Rattle.std.proofs.Common.{ap, ◌∙◌}
use Rattle.command_core.proofs.Entries.{found_under}
use Rattle.command_core.specs.Kept.{kept_named}
use Rattle.command_core.proofs.checkpoints.Checkpoints.get.Goals as goal

pub returns : goal.returns
returns c =
    c.get.ensures ∙ found_under (λ name. name) c.args.name.now c.self.inside.by_name c.self.invariant
    ∙ ap (kept_named c.args.name.now) c.self.view_is
