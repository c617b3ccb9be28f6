use Rattle.std.proofs.Common.{◌-◌, ◌≤◌, length}
use Rattle.page_table.proofs.Both.{AllAbove, AllBelow}
use Rattle.page_table.proofs.links.search.Given as goal

abbrev pub invariant-looking : goal.invariant-looking
invariant-looking l = (l.low ≤ l.high) × (l.high ≤ length l.links) × AllBelow l.links l.slot l.low × AllAbove l.links l.slot l.high

abbrev pub decreases-looking : goal.decreases-looking
decreases-looking l = l.high - l.low
