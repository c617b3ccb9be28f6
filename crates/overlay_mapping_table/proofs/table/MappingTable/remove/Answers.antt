use Rattle.std.proofs.Common.{ap, arith}
use Rattle.overlay_mapping_table.specs.declared.full.Full.{Full}
use Rattle.overlay_mapping_table.specs.Table.{NamedEntries}
use Rattle.overlay_mapping_table.proofs.Tables.{got_there, kept_take, lacks, one_at_least, sound, stands_lacking, stands_take}
use Rattle.overlay_mapping_table.proofs.table.MappingTable.remove.Goals as goal

pub place_of-requires : goal.place_of-requires
place_of-requires c = sound c.self.inside.slots c.self.inside.count c.self.inside.room c.self.invariant.0

pub take_out-end-requires-clause-sound : goal.take_out-end-requires-clause-sound
take_out-end-requires-clause-sound c = sound c.self.inside.slots c.self.inside.count c.self.inside.room c.self.invariant.0

pub overflow_sub-self : goal.overflow_sub-self
overflow_sub-self c =
    one_at_least c.self.inside.slots c.self.inside.count c.self.inside.room c.self.invariant.0 c.args.p c.in-Ok.at c.in-Ok.ensures.there

pub invariant_of-self : goal.invariant_of-self
invariant_of-self c = (
  kept_take c.self.inside.slots c.self.inside.count c.self.inside.room c.self.invariant.0 c.args.p c.in-Ok.at c.in-Ok.ensures.there c.take_out-end.new.slots
      (c.take_out-end.ensures c.args.p c.in-Ok.ensures.there),
  λ i low less. absurd (let none = ap (λ (f : Full). f.end) c.none-self-inside.ensures in omega (arith, less, none)),
)

pub returns-in-Ok-clause-entries : goal.returns-in-Ok-clause-entries
returns-in-Ok-clause-entries c =
    stands_take c.self.inside.slots c.self.inside.count c.self.inside.room c.self.invariant.0 c.args.p c.in-Ok.at c.in-Ok.ensures.there
    c.args.self.now.entries c.take_out-end.new.slots (ap (λ (t : NamedEntries). t.entries) c.self.view_is) (c.take_out-end.ensures c.args.p c.in-Ok.ensures.there)

pub returns-in-Ok-clause-result : goal.returns-in-Ok-clause-result
returns-in-Ok-clause-result c =
    got_there c.self.inside.slots c.args.self.now.entries c.args.p c.in-Ok.at c.entry_at-entry.result (ap (λ (t : NamedEntries). t.entries) c.self.view_is)
    c.self.invariant.0.apart c.in-Ok.ensures.there c.entry_at-entry.ensures

pub returns-in-Err-clause-entries : goal.returns-in-Err-clause-entries
returns-in-Err-clause-entries c =
    stands_lacking c.self.inside.slots c.args.self.now.entries c.args.p c.in-Err.field-0 (ap (λ (t : NamedEntries). t.entries) c.self.view_is)
    c.in-Err.ensures.gap

pub returns-in-Err-clause-result : goal.returns-in-Err-clause-result
returns-in-Err-clause-result c =
    lacks c.self.inside.slots c.args.self.now.entries c.args.p c.in-Err.field-0 (ap (λ (t : NamedEntries). t.entries) c.self.view_is) c.in-Err.ensures.gap
