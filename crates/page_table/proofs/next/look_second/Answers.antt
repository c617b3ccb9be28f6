use Rattle.std.proofs.Common.{◌≡◌, ◌+◌, ◌*◌, ◌/◌, ◌%◌, ◌≤◌, Some, subst, arith}
use Rattle.page_table.specs.Nodes.{node_at, pages_by}
use Rattle.page_table.specs.Kept.{run_pages}
use Rattle.page_table.specs.Next.{NoneFrom}
use Rattle.page_table.proofs.Nexts.{IsFrom, found_later, second_child, second_low, second_next, second_past}
use Rattle.page_table.proofs.next.look_second.Goals as goal
use Rattle.page_table.proofs.next.look_second.Goals.{After-later-from}

-- the page from which on the next child is looked through; nothing is there up to the child, and the child is the node of the page's digits
from : (c : After-later-from) → IsFrom c.args.page ((c.args.page / 512 / 512 / 512 * 512 + c.in-Some.next) * 512 * 512) c.later-from.result
from c = record { first = c.later-from.ensures.from.0; second = c.later-from.ensures.from.1; one = c.later-from.ensures.one }

digits : (c : After-later-from) → c.args.page / 512 / 512 % 512 ≤ c.in-Some.next
digits c = omega (arith, c.looking.invariant.0, c.in-Some.ensures.from)

none : (c : After-later-from) → NoneFrom (pages_by c.args.links.now.children (run_pages c.args.runs.now.items)) c.args.page ((c.args.page / 512 / 512 / 512 * 512 + c.in-Some.next) * 512 * 512)
none c =
    second_next c.args.links.now.children (run_pages c.args.runs.now.items) c.args.page c.args.node c.looking.digit c.in-Some.next c.requires.node c.looking.invariant.2
    c.in-Some.ensures.none (omega (arith, c.in-Some.ensures.low))

node : (c : After-later-from) → node_at c.args.links.now.children 2 (c.later-from.result / 512 / 512) ≡ Some c.in-Some.third
node c =
    second_child c.args.links.now.children c.args.page c.args.node c.in-Some.next c.in-Some.third c.later-from.result c.requires.node c.in-Some.ensures.has (digits c) c.in-Some.ensures.low (from c)

pub look_third-requires-clause-low : goal.look_third-requires-clause-low
look_third-requires-clause-low c =
    let here = (goal.at.look_third-requires-clause-low c).After-later-from in
    second_low c.args.page c.in-Some.next c.later-from.result c.requires.low (digits here) c.in-Some.ensures.low (from here)

pub look_third-requires-clause-node : goal.look_third-requires-clause-node
look_third-requires-clause-node c = node (goal.at.look_third-requires-clause-node c).After-later-from

pub returns-in-Some-look_third : goal.returns-in-Some-look_third
returns-in-Some-look_third c =
    let here = (goal.at.returns-in-Some-look_third c).After-later-from in
    found_later (pages_by c.args.links.now.children (run_pages c.args.runs.now.items)) c.args.page ((c.args.page / 512 / 512 / 512 * 512 + c.in-Some.next) * 512 * 512) c.later-from.result c.in-Some-look_third.run' (none here) (from here)
    c.in-Some-look_third.ensures

pub looking-preserved : goal.looking-preserved
looking-preserved c =
    let here = (goal.at.looking-preserved c).After-later-from in (
      omega (arith, digits here),
      omega (arith, c.in-Some.ensures.low),
      second_past (pages_by c.args.links.now.children (run_pages c.args.runs.now.items)) c.args.page c.in-Some.next c.later-from.result (digits here) c.in-Some.ensures.low (none here) (from here)
          c.in-None.ensures,
    )

pub returns : goal.returns
returns c =
    let all : (c.args.page / 512 / 512 / 512 * 512 + 512) * 512 * 512 ≡ (c.args.page / 512 / 512 / 512 + 1) * 512 * 512 * 512 = omega arith in
    subst (NoneFrom (pages_by c.args.links.now.children (run_pages c.args.runs.now.items)) c.args.page) all
    (second_next c.args.links.now.children (run_pages c.args.runs.now.items) c.args.page c.args.node c.looking.digit 512 c.requires.node c.looking.invariant.2
    c.in_default.ensures (omega arith))
