use Rattle.std.proofs.Common.{◌≡◌, ◌≤◌}
use Rattle.translation_cache.proofs.Lists.{lifted}
use Rattle.translation_cache.proofs.entries.shift_in.Given as goal

abbrev pub invariant-shifting : goal.invariant-shifting
invariant-shifting l = (l.list ≡ lifted l.k l.at l.fn.list) × (l.k ≤ l.at)

abbrev pub decreases-shifting : goal.decreases-shifting
decreases-shifting l = l.k
