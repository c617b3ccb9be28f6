use Rattle.std.proofs.Common.{◌+◌, arith, ap, sym, ◌∙◌}
use Rattle.page_table.proofs.Few.{tree_few}
use Rattle.page_table.proofs.Held.{counted_none, counted_some, paths}
use Rattle.page_table.proofs.table.PageTable.nodes.Goals as goal

pub returns-then-made-eq0-clause-count : goal.returns-then-made-eq0-clause-count
returns-then-made-eq0-clause-count c =
    sym (counted_none c.args.self.now c.self.inside.links.children c.self.inside.runs.items c.self.view_is
    (omega (arith, c.len-made.ensures, c.if-made-eq0.true)))

pub returns-then-made-eq0-clause-paths : goal.returns-then-made-eq0-clause-paths
returns-then-made-eq0-clause-paths c =
    paths c.args.self.now c.self.inside.links.children c.self.inside.runs.items c.self.view_is

pub returns-else-made-eq0-clause-count : goal.returns-else-made-eq0-clause-count
returns-else-made-eq0-clause-count c =
    ap (λ n. n + 1) c.len-made.ensures
    ∙ sym (counted_some c.args.self.now c.self.inside.links.children c.self.inside.runs.items c.self.view_is
    (omega (arith, c.len-made.ensures, c.if-made-eq0.false)))

pub returns-else-made-eq0-clause-paths : goal.returns-else-made-eq0-clause-paths
returns-else-made-eq0-clause-paths c =
    paths c.args.self.now c.self.inside.links.children c.self.inside.runs.items c.self.view_is

pub overflow_cast-made : goal.overflow_cast-made
overflow_cast-made c =
    omega (arith, c.len-made.ensures, tree_few c.self.inside.links.children c.self.invariant.held.tree)

pub overflow_add-result : goal.overflow_add-result
overflow_add-result c =
    omega (arith, c.len-made.ensures, tree_few c.self.inside.links.children c.self.invariant.held.tree)
