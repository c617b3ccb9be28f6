use Rattle.overlay_mapping_table.proofs.Laid.{laid_down, rows_lowered, bare_lowered, within_names}
use Rattle.overlay_mapping_table.proofs.slots.Slots.move_down.Goals as goal

pub move_down-self-inside-requires-clause-last : goal.move_down-self-inside-requires-clause-last
move_down-self-inside-requires-clause-last c =
    within_names c.args.self.now c.self.inside.names c.self.inside.entries c.self.inside.gap c.self.view_is c.self.invariant c.args.last
    c.requires.last

pub invariant_of-self : goal.invariant_of-self
invariant_of-self c =
    laid_down c.args.self.now c.self.inside.names c.self.inside.entries c.self.inside.gap c.self.view_is c.self.invariant
    c.move_down-self-inside.new.names c.move_down-self-inside.new.entries c.move_down-self-inside.result c.args.to c.args.last c.move_down-self-inside.ensures.gap c.move_down-self-inside.ensures.names
    c.move_down-self-inside.ensures.entries

pub returns-clause-rows : goal.returns-clause-rows
returns-clause-rows c =
    rows_lowered c.args.self.now c.self.inside.names c.self.inside.entries c.self.inside.gap c.self.view_is c.self.invariant
    c.move_down-self-inside.new.names c.move_down-self-inside.new.entries c.move_down-self-inside.result c.args.to c.args.last c.move_down-self-inside.ensures.gap c.move_down-self-inside.ensures.names
    c.move_down-self-inside.ensures.entries c.requires.last

pub returns-clause-bare : goal.returns-clause-bare
returns-clause-bare c =
    bare_lowered c.args.self.now c.self.inside.names c.self.inside.entries c.self.inside.gap c.self.view_is c.self.invariant
    c.move_down-self-inside.new.names c.move_down-self-inside.new.entries c.move_down-self-inside.result c.args.to c.args.last c.move_down-self-inside.ensures.gap c.move_down-self-inside.ensures.names
    c.move_down-self-inside.ensures.entries
