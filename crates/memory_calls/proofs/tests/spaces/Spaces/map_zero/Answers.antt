use Rattle.memory_calls.proofs.Awaiting.{none_awaits_mapped}
use Rattle.memory_calls.proofs.tests.spaces.Spaces.map_zero.Goals as goal

pub invariant_of-self : goal.invariant_of-self
invariant_of-self g c = none_awaits_mapped _ c.map_zero.new.self c.args.space c.args.page c.args.n _ c.map_zero.result c.map_zero.ensures.mapped c.map_zero.ensures.kept c.self.invariant
