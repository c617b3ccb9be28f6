use Rattle.std.proofs.Common.{◌≡◌, length, rules}
use Rattle.filled_list.proofs.Fills.{copied_at}
use Rattle.filled_list.proofs.filled.Filled.copy.Goals as goal

pub returns : goal.returns
returns g c =
    let size : length c.copy_within.new.self.items ≡ length c.reach.new.items.items = search rules in
    copied_at c.args.self.now c.self.inside.items.items c.reach.new.items.items c.copy_within.new.self.items c.self.inside.rest c.self.inside.len
    c.args.from c.args.to c.args.n c.max.result c.self.view_is c.self.invariant.0 c.requires.some c.requires.from c.requires.to c.max.ensures
    c.reach.ensures.items size c.copy_within.ensures.by_index
