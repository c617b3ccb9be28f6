use Rattle.overlay_pages.specs.State.{memory_of}
use Rattle.overlay_memory.specs.View.{state_of}
use Rattle.delta_spaces.proofs.Looked.{IsTaking}
use Rattle.delta_spaces.proofs.gathering.gather_lines.Given as goal

abbrev pub invariant-gathering : goal.invariant-gathering
invariant-gathering l = IsTaking (memory_of (state_of l.mem) l.saved) l.page l.fn.numbers l.yielded l.line-iterator l.lines.items
