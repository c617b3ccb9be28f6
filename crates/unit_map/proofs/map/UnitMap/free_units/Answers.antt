use Rattle.std.proofs.Common.{ap, subst, ◌∙◌}
use Rattle.unit_map.specs.Pieces.{ArePieces, free_units}
use Rattle.unit_map.specs.Laws.{free_counts}
use Rattle.unit_map.proofs.Tables.{table_pieces}
use Rattle.unit_map.proofs.map.UnitMap.free_units.Goals as goal

pub returns-clause-pieces : goal.returns-clause-pieces
returns-clause-pieces c = subst ArePieces c.self.view_is (table_pieces c.self.inside.cells c.self.invariant.table)

pub returns-clause-orders : goal.returns-clause-orders
returns-clause-orders c = c.self.invariant.kept ∙ ap free_units c.self.view_is ∙ free_counts c.args.self.now (returns-clause-pieces c).aligned
