use Rattle.std.proofs.Common.{ap, ◌∙◌}
use Rattle.std.specs.FinMap.{get}
use Rattle.page_table.specs.Nodes.{slot}
use Rattle.page_table.proofs.Held.{child_low}
use Rattle.page_table.proofs.table.PageTable.child.Goals as goal

pub returns-clause-low : goal.returns-clause-low
returns-clause-low c =
    child_low c.args.self.now c.self.inside.links.children c.self.inside.runs.items (slot c.args.node c.args.digit) c.self.view_is c.self.invariant.held.tree
    c.child_in.result
    (c.child_in.ensures ∙ ap (λ d. get c.self.inside.links.children (slot c.args.node d)) c.from.ensures)
