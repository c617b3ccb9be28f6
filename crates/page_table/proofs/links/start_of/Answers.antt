use Rattle.page_table.proofs.Both.{start_at, start_gap}
use Rattle.page_table.proofs.links.start_of.Goals as goal

pub returns-in-Ok : goal.returns-in-Ok
returns-in-Ok c = start_at c.args.links.now c.args.slot c.in-Ok.at c.requires c.in-Ok.ensures.there

pub returns-in-Err : goal.returns-in-Err
returns-in-Err c = start_gap c.args.links.now c.args.slot c.in-Err.at c.in-Err.ensures.gap
