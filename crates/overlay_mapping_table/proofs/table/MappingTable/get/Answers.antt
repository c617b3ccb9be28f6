use Rattle.std.proofs.Common.{ap}
use Rattle.overlay_mapping_table.specs.Table.{NamedEntries}
use Rattle.overlay_mapping_table.proofs.Tables.{got_there, lacks, sound}
use Rattle.overlay_mapping_table.proofs.table.MappingTable.get.Goals as goal

pub place_of-requires : goal.place_of-requires
place_of-requires c = sound c.self.inside.slots c.self.inside.count c.self.inside.room c.self.invariant.0

pub returns-in-Ok : goal.returns-in-Ok
returns-in-Ok c =
    got_there c.self.inside.slots c.args.self.now.entries c.args.p c.in-Ok.at c.entry_at.result (ap (λ (t : NamedEntries). t.entries) c.self.view_is)
    c.self.invariant.0.apart c.in-Ok.ensures.there c.entry_at.ensures

pub returns-in-Err : goal.returns-in-Err
returns-in-Err c =
    lacks c.self.inside.slots c.args.self.now.entries c.args.p c.in-Err.field-0 (ap (λ (t : NamedEntries). t.entries) c.self.view_is) c.in-Err.ensures.gap
