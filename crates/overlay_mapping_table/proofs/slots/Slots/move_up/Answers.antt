use Rattle.overlay_mapping_table.proofs.Laid.{laid_up, rows_raised, bare_raised, within_names}
use Rattle.overlay_mapping_table.proofs.slots.Slots.move_up.Goals as goal

pub room_from-room-requires-clause-end : goal.room_from-room-requires-clause-end
room_from-room-requires-clause-end c =
    within_names c.args.self.now c.self.inside.names c.self.inside.entries c.self.inside.gap c.self.view_is c.self.invariant c.args.end
    c.requires.end

pub invariant_of-self : goal.invariant_of-self
invariant_of-self c =
    laid_up c.args.self.now c.self.inside.names c.self.inside.entries c.self.inside.gap c.self.view_is c.self.invariant
    c.move_up-self-inside.new.names c.move_up-self-inside.new.entries c.move_up-self-inside.result c.args.from c.args.end c.room_from-room.result c.move_up-self-inside.ensures.gap c.move_up-self-inside.ensures.names
    c.move_up-self-inside.ensures.bare c.move_up-self-inside.ensures.entries

pub returns-clause-rows : goal.returns-clause-rows
returns-clause-rows c =
    rows_raised c.args.self.now c.self.inside.names c.self.inside.entries c.self.inside.gap c.self.view_is c.self.invariant
    c.move_up-self-inside.new.names c.move_up-self-inside.new.entries c.move_up-self-inside.result c.args.from c.args.end c.room_from-room.result c.move_up-self-inside.ensures.gap c.move_up-self-inside.ensures.names
    c.move_up-self-inside.ensures.bare c.move_up-self-inside.ensures.entries c.room_from-room.ensures.bare c.requires.end

pub returns-clause-bare : goal.returns-clause-bare
returns-clause-bare c =
    bare_raised c.args.self.now c.self.inside.names c.self.inside.entries c.self.inside.gap c.self.view_is c.self.invariant
    c.move_up-self-inside.new.names c.move_up-self-inside.new.entries c.move_up-self-inside.result c.args.from c.args.end c.room_from-room.result c.move_up-self-inside.ensures.gap c.move_up-self-inside.ensures.names
    c.move_up-self-inside.ensures.bare c.move_up-self-inside.ensures.entries
