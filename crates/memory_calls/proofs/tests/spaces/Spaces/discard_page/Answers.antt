use Rattle.overlay_pages.specs.Changes.{discarded}
use Rattle.overlay_memory.specs.View.{state_of}
use Rattle.memory_calls.proofs.Awaiting.{none_awaits_as, none_awaits_altered}
use Rattle.memory_calls.proofs.tests.spaces.Spaces.discard_page.Goals as goal

pub invariant_of-self : goal.invariant_of-self
invariant_of-self g c = none_awaits_as _ (state_of c.discard_page.new.self) c.discard_page.ensures.state (none_awaits_altered discarded (state_of c.self.inside.memory) c.args.space c.args.page c.self.invariant)
