use Rattle.std.proofs.Common.{◌≡◌, ◌≤◌, map, take}
use Rattle.machine_core.specs.Load.{stored_count}
use Rattle.machine_core.proofs.load.stored_in.Given as goal

abbrev pub invariant-counting : goal.invariant-counting
invariant-counting l = (l.count ≡ stored_count (map (λ page. page.stored) (take l.page-index l.pages))) × (l.count ≤ l.page-index)
