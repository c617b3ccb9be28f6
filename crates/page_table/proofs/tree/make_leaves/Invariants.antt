use Rattle.std.proofs.Common.{◌+◌, ◌-◌, ◌*◌, ◌≤◌}
use Rattle.page_table.specs.Kept.{HaveLeaves}
use Rattle.page_table.proofs.tree.make_leaves.Given as goal

abbrev pub invariant-making : goal.invariant-making
invariant-making l =
    HaveLeaves l.fn.links.children l.from l.above l.links.children × (l.fn.links.room ≤ l.links.room + 3 * (l.above - l.from)) × (l.from ≤ l.above)
