use Rattle.unit_map.specs.Cells.{IsSplit}
use Rattle.unit_map.proofs.cells.split.Given as goal

abbrev pub invariant-splitting : goal.invariant-splitting
invariant-splitting l = IsSplit l.fn.cells l.cells l.unit l.from l.order l.below
