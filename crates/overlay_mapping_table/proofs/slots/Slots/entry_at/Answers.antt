use Rattle.std.proofs.Common.{get_or, ap, ◌∙◌}
use Rattle.overlay_mapping_table.specs.declared.entry.Entry.{Entry}
use Rattle.overlay_mapping_table.specs.Gaps.{seen_slots}
use Rattle.overlay_mapping_table.specs.Rows.{nothing}
use Rattle.overlay_mapping_table.proofs.Beside.{value_none, value_some}
use Rattle.overlay_mapping_table.proofs.Laid.{room_entries, within_entries, within_names}
use Rattle.overlay_mapping_table.proofs.slots.Slots.entry_at.Goals as goal

pub read-requires-clause-inside : goal.read-requires-clause-inside
read-requires-clause-inside c =
    within_names c.args.self.now c.self.inside.names c.self.inside.entries c.self.inside.gap c.self.view_is c.self.invariant c.args.at
    c.requires

pub returns-then-read-eq0 : goal.returns-then-read-eq0
returns-then-read-eq0 c =
    value_none c.args.self.now (seen_slots c.self.inside.names 0 c.self.inside.gap) (seen_slots c.self.inside.entries nothing c.self.inside.gap) c.args.at c.self.view_is c.self.invariant.slots c.requires
    c.read.result nothing c.read.ensures c.if-read-eq0.true

pub read-requires-else-read-eq0-clause-inside : goal.read-requires-else-read-eq0-clause-inside
read-requires-else-read-eq0-clause-inside c =
    within_entries c.args.self.now c.self.inside.names c.self.inside.entries c.self.inside.gap c.self.view_is c.self.invariant c.args.at
    c.requires

pub read-requires-else-read-eq0-clause-gap : goal.read-requires-else-read-eq0-clause-gap
read-requires-else-read-eq0-clause-gap c =
    room_entries c.args.self.now c.self.inside.names c.self.inside.entries c.self.inside.gap c.self.view_is c.self.invariant

pub returns-else-read-eq0 : goal.returns-else-read-eq0
returns-else-read-eq0 c =
    value_some c.args.self.now (seen_slots c.self.inside.names 0 c.self.inside.gap) (seen_slots c.self.inside.entries nothing c.self.inside.gap) c.args.at c.self.view_is c.self.invariant.slots c.requires
    c.read.result c.read-else-read-eq0.result c.read.ensures c.if-read-eq0.false
    (c.read-else-read-eq0.ensures
    ∙ ap (λ (e : Entry). get_or (seen_slots c.self.inside.entries e c.self.inside.gap) c.args.at c.read-else-read-eq0.result) c.nothing.ensures)
