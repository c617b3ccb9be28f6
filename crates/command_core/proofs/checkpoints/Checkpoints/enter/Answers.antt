use Rattle.std.proofs.Common.{ap, ◌∙◌}
use Rattle.std.specs.Map.{values_of}
use Rattle.command_core.specs.Kept.{kept_named}
use Rattle.command_core.proofs.Entries.{found_under}
use Rattle.command_core.proofs.checkpoints.Checkpoints.enter.Goals as goal

pub enter-requires : goal.enter-requires
enter-requires c = record {
  absent = found_under (λ name. name) c.as_slice.result.now c.self.inside.by_name c.self.invariant
      ∙ ap (λ n. kept_named n (values_of c.self.inside.by_name)) c.as_slice.ensures ∙ ap (kept_named c.args.name.now) c.self.view_is ∙ c.requires.absent;
}
