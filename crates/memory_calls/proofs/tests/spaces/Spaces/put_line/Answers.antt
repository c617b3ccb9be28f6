use Rattle.overlay_memory.specs.View.{state_of}
use Rattle.memory_calls.proofs.Awaiting.{none_awaits_beside}
use Rattle.memory_calls.proofs.tests.spaces.Spaces.put_line.Goals as goal

pub invariant_of-self : goal.invariant_of-self
invariant_of-self g c =
    none_awaits_beside (state_of c.self-2.inside.memory) (state_of c.put_line.new.self) c.args.space c.put_line.ensures.stored.awaiting c.put_line.ensures.stored.others
    c.self-2.invariant
