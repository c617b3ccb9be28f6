use Rattle.std.proofs.Common.{sym, ap, length, ◌∙◌}
use Rattle.filled_list.proofs.Fills.{sized}
use Rattle.filled_list.proofs.filled.Filled.len.Goals as goal

pub returns : goal.returns
returns g c = sym (sized c.self.inside.items.items c.self.inside.rest c.self.inside.len c.self.invariant.0) ∙ ap length c.self.view_is
