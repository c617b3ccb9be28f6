use Rattle.std.proofs.Common.{◌≡◌, ◌*◌, ◌/◌, ◌^◌, ◌≤◌, Some, subst, arith}
use Rattle.page_table.specs.Nodes.{node_at, pages_by}
use Rattle.page_table.specs.Kept.{run_pages}
use Rattle.page_table.specs.Next.{NoneFrom}
use Rattle.page_table.proofs.Nexts.{IsFrom, found_later, first_child, first_low, first_next, first_past}
use Rattle.page_table.proofs.next.look_first.Goals as goal
use Rattle.page_table.proofs.next.look_first.Goals.{After-later-from}

-- the page from which on the next child is looked through; nothing is there up to the child, and the child is the node of the page's digits
from : (c : After-later-from) → IsFrom c.args.page (c.in-Some.next * 512 * 512 * 512) c.later-from.result
from c = record { first = c.later-from.ensures.from.0; second = c.later-from.ensures.from.1; one = c.later-from.ensures.one }

digits : (c : After-later-from) → c.args.page / 512 / 512 / 512 ≤ c.in-Some.next
digits c = omega (arith, c.looking.invariant.0, c.in-Some.ensures.from)

none : (c : After-later-from) → NoneFrom (pages_by c.args.links.now.children (run_pages c.args.runs.now.items)) c.args.page (c.in-Some.next * 512 * 512 * 512)
none c =
    first_next c.args.links.now.children (run_pages c.args.runs.now.items) c.args.page c.looking.digit c.in-Some.next c.looking.invariant.2
    c.in-Some.ensures.none (omega (arith, c.in-Some.ensures.low))

node : (c : After-later-from) → node_at c.args.links.now.children 1 (c.later-from.result / 512 / 512 / 512) ≡ Some c.in-Some.second
node c =
    first_child c.args.links.now.children c.args.page c.in-Some.next c.in-Some.second c.later-from.result c.in-Some.ensures.has (digits c) c.in-Some.ensures.low (from c)

pub look_second-requires-clause-low : goal.look_second-requires-clause-low
look_second-requires-clause-low c =
    let here = (goal.at.look_second-requires-clause-low c).After-later-from in
    first_low c.args.page c.in-Some.next c.later-from.result (digits here) c.in-Some.ensures.low (from here)

pub look_second-requires-clause-node : goal.look_second-requires-clause-node
look_second-requires-clause-node c = node (goal.at.look_second-requires-clause-node c).After-later-from

pub returns-in-Some-look_second : goal.returns-in-Some-look_second
returns-in-Some-look_second c =
    let here = (goal.at.returns-in-Some-look_second c).After-later-from in
    found_later (pages_by c.args.links.now.children (run_pages c.args.runs.now.items)) c.args.page (c.in-Some.next * 512 * 512 * 512) c.later-from.result c.in-Some-look_second.run' (none here) (from here)
    c.in-Some-look_second.ensures

pub looking-preserved : goal.looking-preserved
looking-preserved c =
    let here = (goal.at.looking-preserved c).After-later-from in (
      omega (arith, digits here),
      omega (arith, c.in-Some.ensures.low),
      first_past (pages_by c.args.links.now.children (run_pages c.args.runs.now.items)) c.args.page c.in-Some.next c.later-from.result (digits here) (none here) (from here)
          c.in-None.ensures,
    )

pub returns : goal.returns
returns c =
    let all : 512 * 512 * 512 * 512 ≡ 2 ^ 36 = omega arith in
    subst (NoneFrom (pages_by c.args.links.now.children (run_pages c.args.runs.now.items)) c.args.page) all
    (first_next c.args.links.now.children (run_pages c.args.runs.now.items) c.args.page c.looking.digit 512 c.looking.invariant.2
    c.in_default.ensures (omega arith))
