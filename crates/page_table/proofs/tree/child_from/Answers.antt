use Rattle.std.proofs.Common.{ℕ, ◌+◌, ◌-◌, ◌*◌, Some, None, subst, sym, arith}
use Rattle.number_maps.specs.Rows.{IsNextOne}
use Rattle.page_table.specs.Kept.{IsChildFrom}
use Rattle.page_table.proofs.Nexts.{child_here, child_none, child_past}
use Rattle.page_table.proofs.tree.child_from.Goals as goal
use Rattle.page_table.proofs.tree.child_from.Goals.{In-Some}

next : (c : In-Some) → IsNextOne c.args.links.now.children (512 * c.args.node + c.args.digit) (Some (c.in-Some.slot, c.in-Some.child))
next c = subst (λ (n : ℕ). IsNextOne c.args.links.now.children (512 * n + c.args.digit) (Some (c.in-Some.slot, c.in-Some.child))) c.from-base.ensures c.in-Some.ensures

pub overflow_sub-result : goal.overflow_sub-result
overflow_sub-result c = omega (arith, c.in-Some.ensures.0)

pub returns-then-slot-base : goal.returns-then-slot-base
returns-then-slot-base c =
    let here = (goal.at.returns-then-slot-base c).In-Some in
    subst (λ (n : ℕ). IsChildFrom c.args.links.now.children c.args.node c.args.digit (c.in-Some.slot - 512 * n, c.in-Some.child)) (sym c.from-base.ensures)
    (child_here c.args.links.now.children c.args.node c.args.digit c.in-Some.slot c.in-Some.child (next here)
    (omega (arith, c.if-slot-base.true, c.from-base.ensures)))

pub returns-else-slot-base : goal.returns-else-slot-base
returns-else-slot-base c =
    let here = (goal.at.returns-else-slot-base c).In-Some in
    child_past c.args.links.now.children c.args.node c.args.digit c.in-Some.slot c.in-Some.child (next here)
    (omega (arith, c.if-slot-base.false, c.from-base.ensures))

pub returns-in-None : goal.returns-in-None
returns-in-None c =
    child_none c.args.links.now.children c.args.node c.args.digit
    (subst (λ (n : ℕ). IsNextOne c.args.links.now.children (512 * n + c.args.digit) None) c.from-base.ensures c.in-None.ensures)
