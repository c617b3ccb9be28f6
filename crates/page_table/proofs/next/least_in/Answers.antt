use Rattle.page_table.specs.Nodes.{pages_by}
use Rattle.page_table.specs.Kept.{run_pages}
use Rattle.page_table.proofs.Fronts.{none_least}
use Rattle.page_table.proofs.next.least_in.Goals as goal

pub returns-in-Some : goal.returns-in-Some
returns-in-Some c =
    none_least (pages_by c.args.links.now.children (run_pages c.args.runs.now.items)) c.args.front c.in-Some.run' c.requires.none c.in-Some.ensures
