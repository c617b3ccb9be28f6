use Rattle.memory_calls.proofs.Awaiting.{none_awaits_places}
use Rattle.memory_calls.proofs.tests.spaces.Spaces.place_page.Goals as goal

pub invariant_of-self : goal.invariant_of-self
invariant_of-self g c = none_awaits_places c.self.inside.memory.pages c.place_page.new.self.pages c.args.space c.args.page _ _ c.place_page.result c.place_page.ensures.places c.self.invariant
