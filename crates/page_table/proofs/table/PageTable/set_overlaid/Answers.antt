use Rattle.page_set.specs.Laws.{room_for}
use Rattle.page_table.proofs.Overlaid.{overlaid_seen}
use Rattle.page_table.proofs.table.PageTable.set_overlaid.Goals as goal

pub insert-requires : goal.insert-requires
insert-requires c =
    let own = overlaid_seen c.args.self.now c.self.inside.links.children c.self.inside.runs.items c.self.inside.overlaid c.self.view_is c.self.invariant.overlaid in
    room_for c.self.inside.overlaid c.args.self.now.pages c.args.page own.are own.there c.requires own.roomy
