use Rattle.std.proofs.Common.{subst}
use Rattle.page_table.specs.Nodes.{Table, pages_by}
use Rattle.page_table.specs.Run.{IsNextRun}
use Rattle.page_table.specs.Kept.{run_pages}
use Rattle.page_table.proofs.Fronts.{next_front}
use Rattle.page_table.proofs.table.PageTable.next_run.Goals as goal

pub returns : goal.returns
returns c =
    let runs = run_pages c.self.inside.runs.items in
    subst (λ (t : Table). IsNextRun t.pages c.args.page c.next_in.result) c.self.view_is
    (next_front (pages_by c.self.inside.links.children runs) c.self.inside.front c.args.page c.later-from.result c.next_in.result
    c.self.invariant.none c.later-from.ensures.from.0 c.later-from.ensures.one
    c.next_in.ensures)
