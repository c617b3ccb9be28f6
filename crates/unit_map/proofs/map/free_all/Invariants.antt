use Rattle.mark_levels.specs.Levels.{AreMarks}
use Rattle.unit_map.proofs.Making.{IsMade}
use Rattle.unit_map.proofs.map.free_all.Given as goal

abbrev pub invariant-freeing : goal.invariant-freeing
invariant-freeing l = IsMade l.frames l.frame l.cells × AreMarks l.cells l.marks
