use Rattle.overlay_mapping_table.specs.Gaps.{seen_slots}
use Rattle.overlay_mapping_table.specs.Rows.{nothing}
use Rattle.overlay_mapping_table.proofs.Beside.{number_read}
use Rattle.overlay_mapping_table.proofs.Laid.{within_names}
use Rattle.overlay_mapping_table.proofs.slots.Slots.number_at.Goals as goal

pub read-requires-clause-inside : goal.read-requires-clause-inside
read-requires-clause-inside c =
    within_names c.args.self.now c.self.inside.names c.self.inside.entries c.self.inside.gap c.self.view_is c.self.invariant c.args.at
    c.requires

pub returns : goal.returns
returns c =
    number_read c.args.self.now (seen_slots c.self.inside.names 0 c.self.inside.gap) (seen_slots c.self.inside.entries nothing c.self.inside.gap) c.args.at c.self.view_is c.self.invariant.slots c.requires
    c.read.result nothing c.read.ensures
