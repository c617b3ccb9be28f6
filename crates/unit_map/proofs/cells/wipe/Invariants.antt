use Rattle.std.proofs.Common.{◌+◌, ◌^◌, ◌<◌}
use Rattle.unit_map.specs.Cells.{AreSameBut, AreInside}
use Rattle.unit_map.proofs.cells.wipe.Given as goal

abbrev pub invariant-wiping : goal.invariant-wiping
invariant-wiping l = (l.block.unit < l.at) × AreSameBut l.block.unit (2 ^ l.block.order) l.fn.cells l.cells × AreInside l.cells (l.block.unit + 1) l.at
