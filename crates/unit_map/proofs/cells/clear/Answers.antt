use Rattle.std.proofs.Common.{◌/◌}
use Rattle.unit_map.proofs.Tables.{can_clear, table_next}
use Rattle.unit_map.proofs.cells.clear.Goals as goal

pub clear_in-requires : goal.clear_in-requires
clear_in-requires c = record { can = can_clear c.args.cells.now c.args.block.unit c.args.block.order c.requires.table c.requires.held; counts = c.requires.counts }

pub returns-clause-table : goal.returns-clause-table
returns-clause-table c = table_next c.args.cells.now c.clear_in.new.cells (c.args.block.unit / 16) c.requires.table c.clear_in.ensures.cleared.same c.clear_in.ensures.cleared.tiled
