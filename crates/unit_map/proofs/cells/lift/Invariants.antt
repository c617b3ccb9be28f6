use Rattle.std.proofs.Common.{◌≡◌, ◌+◌, ◌<◌, ℕ, length, get_or}
use Rattle.unit_map.proofs.cells.lift.Given as goal

abbrev pub invariant-lifting : goal.invariant-lifting
invariant-lifting l = (length l.part ≡ 8) × ((i : ℕ) → i < l.i → get_or l.part i 0 ≡ get_or l.cells (l.from + i) 0)
