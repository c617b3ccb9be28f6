use Rattle.std.proofs.Common.{sym, ◌∙◌}
use Rattle.breakpoints.proofs.Sets.{has_is}
use Rattle.breakpoints.proofs.addresses.Addresses.has.Goals as goal

pub returns-then-may_have : goal.returns-then-may_have
returns-then-may_have c = rw (← c.self.view_is) (c.contains.ensures ∙ sym (has_is c.self.inside.found.keys c.args.address))
