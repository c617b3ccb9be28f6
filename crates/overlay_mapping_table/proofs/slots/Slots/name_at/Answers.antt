use Rattle.std.proofs.Common.{sym}
use Rattle.overlay_mapping_table.specs.Gaps.{seen_slots}
use Rattle.overlay_mapping_table.specs.Rows.{nothing}
use Rattle.overlay_mapping_table.proofs.Beside.{name_none, name_some}
use Rattle.overlay_mapping_table.proofs.Laid.{within_names}
use Rattle.overlay_mapping_table.proofs.slots.Slots.name_at.Goals as goal

pub read-requires-clause-inside : goal.read-requires-clause-inside
read-requires-clause-inside c =
    within_names c.args.self.now c.self.inside.names c.self.inside.entries c.self.inside.gap c.self.view_is c.self.invariant c.args.at
    c.requires

pub returns-in-Some : goal.returns-in-Some
returns-in-Some c =
    name_some c.args.self.now (seen_slots c.self.inside.names 0 c.self.inside.gap) (seen_slots c.self.inside.entries nothing c.self.inside.gap) c.args.at c.self.view_is c.self.invariant.slots c.requires
    c.read.result _ _ nothing c.read.ensures (sym c.in-Some.ensures.split)

pub returns-in-None : goal.returns-in-None
returns-in-None c =
    name_none c.args.self.now (seen_slots c.self.inside.names 0 c.self.inside.gap) (seen_slots c.self.inside.entries nothing c.self.inside.gap) c.args.at c.self.view_is c.self.invariant.slots c.requires
    c.read.result nothing c.read.ensures (sym c.in-None.ensures.split)
