use Rattle.std.proofs.Common.{arith}
use Rattle.page_table.specs.Kept.{run_pages}
use Rattle.page_table.proofs.Nexts.{next_first, none_high}
use Rattle.page_table.proofs.next.next_in.Goals as goal

pub returns-then-page-ge-TABLE_END : goal.returns-then-page-ge-TABLE_END
returns-then-page-ge-TABLE_END c =
    none_high c.args.links.now.children (run_pages c.args.runs.now.items) c.args.page (omega (arith, c.if-page-ge-TABLE_END.true))

pub returns : goal.returns
returns c = next_first c.args.links.now.children (run_pages c.args.runs.now.items) c.args.page c.look_first.result c.look_first.ensures
