use Rattle.std.proofs.Common.{◌-◌, ◌*◌, ◌/◌, ◌≤◌}
use Rattle.page_table.specs.Nodes.{pages_by}
use Rattle.page_table.specs.Kept.{run_pages}
use Rattle.page_table.specs.Next.{NoneFrom}
use Rattle.page_table.proofs.next.look_first.Given as goal

abbrev pub invariant-looking : goal.invariant-looking
invariant-looking l =
    (l.page / 512 / 512 / 512 ≤ l.digit) × (l.digit ≤ 512)
    × NoneFrom (pages_by l.links.children (run_pages l.runs.items)) l.page (l.digit * 512 * 512 * 512)

abbrev pub decreases-looking : goal.decreases-looking
decreases-looking l = 512 - l.digit
