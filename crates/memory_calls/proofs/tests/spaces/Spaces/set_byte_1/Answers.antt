use Rattle.std.specs.Prelude.{slice_set}
use Rattle.overlay_memory.specs.View.{state_of}
use Rattle.memory_calls.proofs.Awaiting.{none_awaits_as, none_awaits_written}
use Rattle.memory_calls.proofs.tests.spaces.Spaces.set_byte_1.Goals as goal

pub invariant_of-self : goal.invariant_of-self
invariant_of-self g c =
    let left = slice_set c.line_mut.result.now 1 c.args.byte in
    none_awaits_as _ _ (c.line_mut.ensures.state left)
    (none_awaits_written (state_of c.self-2.inside.memory) c.args.space c.args.page c.args.line left c.self-2.invariant)
