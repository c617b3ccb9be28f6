use Rattle.overlay_memory.specs.View.{state_of}
use Rattle.memory_calls.proofs.Awaiting.{none_awaits_as}
use Rattle.memory_calls.proofs.tests.spaces.Spaces.compact.Goals as goal

pub invariant_of-self : goal.invariant_of-self
invariant_of-self c = none_awaits_as (state_of c.self.inside.memory) (state_of c.compact.new.self) c.compact.ensures.state c.self.invariant
