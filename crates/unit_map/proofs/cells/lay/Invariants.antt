use Rattle.std.proofs.Common.{◌≡◌, ◌+◌, ◌<◌, ℕ, get_or}
use Rattle.unit_map.specs.Cells.{AreSameBut}
use Rattle.unit_map.proofs.cells.lay.Given as goal

abbrev pub invariant-laying : goal.invariant-laying
invariant-laying l = AreSameBut l.to l.i l.fn.cells l.cells × ((i : ℕ) → i < l.i → get_or l.cells (l.to + i) 0 ≡ get_or l.part i 0)
