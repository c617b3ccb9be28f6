use Rattle.overlay_memory.specs.View.{state_of}
use Rattle.memory_calls.proofs.Awaiting.{none_awaits_as, none_awaits_cut}
use Rattle.memory_calls.proofs.tests.spaces.Spaces.unmap.Goals as goal

pub invariant_of-self : goal.invariant_of-self
invariant_of-self g c = none_awaits_as _ (state_of c.unmap.new.self) c.unmap.ensures.state (none_awaits_cut c.args.n c.args.page (state_of c.self.inside.memory) c.args.space c.self.invariant)
