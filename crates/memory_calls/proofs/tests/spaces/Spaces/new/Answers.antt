use Rattle.overlay_memory.specs.View.{state_of}
use Rattle.memory_calls.proofs.Awaiting.{none_awaits_new}
use Rattle.memory_calls.proofs.tests.spaces.Spaces.new.Goals as goal

pub invariant_of-result : goal.invariant_of-result
invariant_of-result g c = none_awaits_new c.args.frames (state_of c.in_ok-new.field-0) c.in_ok-new.ensures.state
