use Rattle.memory_calls.proofs.Awaiting.{none_awaits_added}
use Rattle.memory_calls.proofs.tests.spaces.Spaces.add_space.Goals as goal

pub invariant_of-self : goal.invariant_of-self
invariant_of-self g c = none_awaits_added _ c.add_space.new.self c.args.space c.add_space.result c.add_space.ensures.added c.add_space.ensures.kept c.self.invariant
