use Rattle.overlay_pages.specs.Changes.{committed}
use Rattle.overlay_memory.specs.View.{state_of}
use Rattle.memory_calls.proofs.Awaiting.{none_awaits_as, none_awaits_altered}
use Rattle.memory_calls.proofs.tests.spaces.Spaces.commit_page.Goals as goal

pub invariant_of-self : goal.invariant_of-self
invariant_of-self g c = none_awaits_as _ (state_of c.commit_page.new.self) c.commit_page.ensures.state (none_awaits_altered committed (state_of c.self.inside.memory) c.args.space c.args.page c.self.invariant)
