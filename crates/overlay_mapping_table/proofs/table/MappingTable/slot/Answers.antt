use Rattle.std.proofs.Common.{ap}
use Rattle.overlay_mapping_table.specs.Table.{NamedEntries}
use Rattle.overlay_mapping_table.proofs.Tables.{shown}
use Rattle.overlay_mapping_table.proofs.table.MappingTable.slot.Goals as goal

pub returns : goal.returns
returns c = shown c.args.self.now c.self.inside.slots c.args.at c.name_at.result (ap (λ (t : NamedEntries). t.slots) c.self.view_is) c.name_at.ensures
