use Rattle.overlay_memory.specs.View.{state_of}
use Rattle.memory_calls.proofs.Awaiting.{none_awaits_as, none_awaits_gone}
use Rattle.memory_calls.proofs.tests.spaces.Spaces.drop_space.Goals as goal

pub invariant_of-self : goal.invariant_of-self
invariant_of-self g c = none_awaits_as _ (state_of c.drop_space.new.self) c.drop_space.ensures.state (none_awaits_gone (state_of c.self.inside.memory) c.args.space c.self.invariant)
