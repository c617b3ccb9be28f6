use Rattle.std.proofs.Common.{◌≡◌, ◌≤◌, ◌-◌}
use Rattle.std.specs.Vec.{vec_capacity}
use Rattle.number_maps.specs.Rows.{map_of}
use Rattle.page_set.specs.Kept.{AreSetRows, IsCutTo}
use Rattle.page_set.proofs.rows.take_run.Given as goal

abbrev pub invariant-taking : goal.invariant-taking
invariant-taking l =
    AreSetRows l.rows.items × (l.from ≤ l.next) × (l.next ≤ l.end) × IsCutTo (map_of l.fn.rows.items) l.from l.next (map_of l.rows.items)
    × (vec_capacity l.rows ≡ vec_capacity l.fn.rows)

abbrev pub decreases-taking : goal.decreases-taking
decreases-taking l = l.end - l.next
