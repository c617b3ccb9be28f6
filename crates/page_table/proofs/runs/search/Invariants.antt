use Rattle.std.proofs.Common.{◌-◌, ◌≤◌, length}
use Rattle.page_table.proofs.Places.{AllBefore, AllBehind}
use Rattle.page_table.proofs.runs.search.Given as goal

abbrev pub invariant-looking : goal.invariant-looking
invariant-looking l =
    (l.low ≤ l.high) × (l.high ≤ length l.runs.items) × AllBefore l.runs.items l.page l.low × AllBehind l.runs.items l.page l.high

abbrev pub decreases-looking : goal.decreases-looking
decreases-looking l = l.high - l.low
