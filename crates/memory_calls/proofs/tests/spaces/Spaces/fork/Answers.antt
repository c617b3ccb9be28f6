use Rattle.memory_calls.proofs.Awaiting.{none_awaits_copies}
use Rattle.memory_calls.proofs.tests.spaces.Spaces.fork.Goals as goal

pub invariant_of-self : goal.invariant_of-self
invariant_of-self g c = none_awaits_copies c.self.inside.memory c.fork_space.new.mem c.args.from c.args.to c.fork_space.result c.fork_space.ensures.copies c.self.invariant
