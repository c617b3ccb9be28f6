use Rattle.memory_calls.proofs.Awaiting.{none_awaits_copies}
use Rattle.memory_calls.proofs.tests.spaces.Spaces.restore.Goals as goal

pub invariant_of-self : goal.invariant_of-self
invariant_of-self g c = none_awaits_copies c.self.inside.memory c.restore_space.new.mem c.args.saved c.args.into c.restore_space.result c.restore_space.ensures.copies c.self.invariant
