use Rattle.overlay_memory.specs.View.{state_of}
use Rattle.memory_calls.proofs.Awaiting.{none_awaits_as, none_awaits_marked}
use Rattle.memory_calls.proofs.tests.spaces.Spaces.set_speculating.Goals as goal

pub invariant_of-self : goal.invariant_of-self
invariant_of-self g c = none_awaits_as _ (state_of c.set_speculating.new.self) c.set_speculating.ensures.state (none_awaits_marked (state_of c.self.inside.memory) c.args.space c.args.on c.self.invariant)
