use Rattle.breakpoints.proofs.Sets.{set_removed}
use Rattle.breakpoints.proofs.addresses.Addresses.remove.Goals as goal

pub returns-then-is_empty : goal.returns-then-is_empty
returns-then-is_empty c = rw (← c.self.view_is) (set_removed c.self.inside.found.keys c.swap_remove.new.self.keys c.args.address c.swap_remove.ensures.updates.0)

pub returns-else-is_empty : goal.returns-else-is_empty
returns-else-is_empty c = rw (← c.self.view_is) (set_removed c.self.inside.found.keys c.swap_remove.new.self.keys c.args.address c.swap_remove.ensures.updates.0)
