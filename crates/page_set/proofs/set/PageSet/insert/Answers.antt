use Rattle.page_set.proofs.Kept.{row_room}
use Rattle.page_set.proofs.set.PageSet.insert.Goals as goal

pub put_in-requires-clause-room : goal.put_in-requires-clause-room
put_in-requires-clause-room c = row_room c.args.self.now c.self.inside.rows.items _ c.args.page c.self.view_is c.self.invariant.rise c.requires
