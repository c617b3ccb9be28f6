use Rattle.std.proofs.Common.{subst}
use Rattle.overlay_mapping_table.specs.Table.{NamedEntries, AreThoseOf, NoneIsEmptyBefore}
use Rattle.overlay_mapping_table.proofs.Tables.{those, ways}
use Rattle.overlay_mapping_table.proofs.table.MappingTable.slots.Goals as goal

pub returns-clause-names : goal.returns-clause-names
returns-clause-names c =
    subst (λ (t : NamedEntries). AreThoseOf t.slots t.entries) c.self.view_is
    (those c.self.inside.slots c.self.inside.count c.self.inside.room c.self.invariant.0)

pub returns-clause-ways : goal.returns-clause-ways
returns-clause-ways c =
    subst (λ (t : NamedEntries). NoneIsEmptyBefore t.slots) c.self.view_is
    (ways c.self.inside.slots c.self.inside.count c.self.inside.room c.self.invariant.0)
