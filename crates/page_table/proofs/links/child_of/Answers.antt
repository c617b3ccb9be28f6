use Rattle.std.proofs.Common.{sym}
use Rattle.number_maps.specs.RowLaws.{got_at, got_gap}
use Rattle.page_table.proofs.links.child_of.Goals as goal

pub returns-in-Ok : goal.returns-in-Ok
returns-in-Ok c = sym (got_at c.args.links.now c.args.slot c.in-Ok.at (0, 0) c.requires c.in-Ok.ensures.there)

pub returns-in-Err : goal.returns-in-Err
returns-in-Err c = sym (got_gap c.args.links.now c.args.slot c.in-Err.field-0 c.in-Err.ensures.gap)
