use Rattle.std.proofs.Common.{ap}
use Rattle.overlay_mapping_table.specs.Table.{NamedEntries}
use Rattle.overlay_mapping_table.proofs.Ends.{full_over}
use Rattle.overlay_mapping_table.proofs.Tables.{kept_over, kept_put, room_left, sound, stands_over}
use Rattle.overlay_mapping_table.proofs.table.MappingTable.insert.Goals as goal

pub place_of-requires : goal.place_of-requires
place_of-requires c = sound c.self.inside.slots c.self.inside.count c.self.inside.room c.self.invariant.0

pub invariant_of-self : goal.invariant_of-self
invariant_of-self c = (
  kept_over c.self.inside.slots c.self.inside.count c.self.inside.room c.self.invariant.0 c.args.p c.args.e c.in-Ok.at c.in-Ok.ensures.there
      c.put.new.self c.put.ensures,
  full_over c.self.inside.slots c.put.new.self c.self.inside.full c.in-Ok.at (c.args.p, c.args.e) c.in-Ok.ensures.there.inside c.self.invariant.1 c.put.ensures,
)

pub returns-in-Ok-clause-entries : goal.returns-in-Ok-clause-entries
returns-in-Ok-clause-entries c =
    stands_over c.self.inside.slots c.self.inside.count c.self.inside.room c.self.invariant.0 c.args.p c.args.e c.in-Ok.at c.in-Ok.ensures.there
    c.args.self.now.entries c.put.new.self (ap (λ (t : NamedEntries). t.entries) c.self.view_is) c.put.ensures

pub put_in-full-requires-clause-sound : goal.put_in-full-requires-clause-sound
put_in-full-requires-clause-sound c = sound c.self.inside.slots c.self.inside.count c.self.inside.room c.self.invariant.0

pub invariant_of-self-in-Err : goal.invariant_of-self-in-Err
invariant_of-self-in-Err c = (
  kept_put c.self.inside.slots c.self.inside.count c.self.inside.room c.self.invariant.0 c.args.p c.args.e c.put_in-full.new.slots c.in-Err.place
      c.in-Err.ensures.gap c.put_in-full.ensures.now
      (room_left c.self.inside.slots c.self.inside.count c.self.inside.room c.self.invariant.0 c.args.p c.args.e c.args.self.now c.in-Err.place
      (ap (λ (t : NamedEntries). t.entries) c.self.view_is) (ap (λ (t : NamedEntries). t.room) c.self.view_is) c.in-Err.ensures.gap c.requires.room),
  c.put_in-full.ensures.full,
)
