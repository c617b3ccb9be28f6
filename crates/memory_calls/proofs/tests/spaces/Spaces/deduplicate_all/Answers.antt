use Rattle.overlay_memory.specs.View.{state_of}
use Rattle.memory_calls.proofs.Awaiting.{none_awaits_kept}
use Rattle.memory_calls.proofs.tests.spaces.Spaces.deduplicate_all.Goals as goal

pub invariant_of-self : goal.invariant_of-self
invariant_of-self g c =
    none_awaits_kept (state_of c.self.inside.memory) (state_of c.deduplicate_all.new.mem) c.args.space c.deduplicate_all.ensures.shared.beside c.self.invariant
