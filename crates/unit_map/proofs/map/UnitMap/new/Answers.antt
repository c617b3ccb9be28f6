use Rattle.std.proofs.Common.{[], ◌∷◌, ap, subst, sym, ◌∙◌}
use Rattle.unit_map.specs.Counted.{AreCounts}
use Rattle.unit_map.specs.Pieces.{free_units}
use Rattle.unit_map.proofs.Counting.{frames_counts}
use Rattle.unit_map.proofs.Making.{free_frames_units}
use Rattle.unit_map.proofs.Tables.{table_pieces}
use Rattle.unit_map.proofs.map.UnitMap.new.Goals as goal

pub invariant_of-result : goal.invariant_of-result
invariant_of-result c = record { table = c.free_all.ensures.table; marked = c.free_all.ensures.marks; counts_are = subst (AreCounts (0 ∷ 0 ∷ 0 ∷ 0 ∷ c.args.frames ∷ [])) (sym c.free_all.ensures.pieces) (frames_counts c.args.frames); kept = sym (ap free_units c.free_all.ensures.pieces ∙ free_frames_units 0 c.args.frames) }

pub returns-clause-pieces : goal.returns-clause-pieces
returns-clause-pieces c = table_pieces c.free_all.new.cells c.free_all.ensures.table
