use Rattle.overlay_pages.specs.State.{memory_of}
use Rattle.overlay_memory.specs.View.{state_of}
use Rattle.delta_spaces.specs.Gathered.{differs}
use Rattle.delta_spaces.proofs.Looked.{IsLooking}
use Rattle.delta_spaces.proofs.differing.those_apart.Given as goal

abbrev pub invariant-looking : goal.invariant-looking
invariant-looking l =
    IsLooking (differs (memory_of (state_of l.mem) l.saved) (memory_of (state_of l.mem) l.base) l.page) l.fn.may l.yielded l.line-iterator l.lines
