use Rattle.std.proofs.Common.{◌∙◌}
use Rattle.overlay_mapping_table.proofs.Laid.{as_many}
use Rattle.overlay_mapping_table.proofs.slots.Slots.len.Goals as goal

pub returns : goal.returns
returns c = c.len.ensures ∙ as_many c.args.self.now c.self.inside.names c.self.inside.entries c.self.inside.gap c.self.view_is c.self.invariant
