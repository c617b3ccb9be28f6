use Rattle.std.proofs.Common.{◌+◌, ◌-◌, length}
use Rattle.page_table.proofs.Both.{IsMergedTo}
use Rattle.page_table.proofs.links.merged.Given as goal

abbrev pub invariant-merging : goal.invariant-merging
invariant-merging l = IsMergedTo l.settled l.recent l.at l.other l.rows.items

abbrev pub decreases-merging : goal.decreases-merging
decreases-merging l = length l.settled - l.at + (length l.recent - l.other)
