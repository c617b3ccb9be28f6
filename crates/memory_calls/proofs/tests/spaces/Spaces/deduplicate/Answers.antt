use Rattle.memory_calls.proofs.Awaiting.{none_awaits_put_on}
use Rattle.memory_calls.proofs.tests.spaces.Spaces.deduplicate.Goals as goal

pub invariant_of-self : goal.invariant_of-self
invariant_of-self g c =
    none_awaits_put_on c.self.inside.memory c.deduplicate.new.mem c.args.space c.args.page c.args.from c.args.other c.deduplicate.result c.deduplicate.ensures.deduplicates
    c.self.invariant
