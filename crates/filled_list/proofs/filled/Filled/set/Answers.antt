use Rattle.std.proofs.Common.{◌<◌, length, rules}
use Rattle.filled_list.proofs.Fills.{set_at, set_kept}
use Rattle.filled_list.proofs.filled.Filled.set.Goals as goal

pub returns-then-at-len : goal.returns-then-at-len
returns-then-at-len g c =
    let inside : c.args.at < length c.self.inside.items.items = search rules in
    set_kept c.args.self.now c.self.inside.items.items c.self.inside.rest c.args.x c.self.inside.len c.args.at c.self.view_is inside

pub returns-else-at-len : goal.returns-else-at-len
returns-else-at-len g c =
    set_at c.args.self.now c.self.inside.items.items c.reach.new.items.items c.self.inside.rest c.args.x c.self.inside.len c.args.at c.self.view_is
    c.self.invariant.0 c.requires c.reach.ensures.items
