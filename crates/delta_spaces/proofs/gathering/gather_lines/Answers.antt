use Rattle.overlay_pages.specs.State.{memory_of}
use Rattle.overlay_memory.specs.View.{state_of}
use Rattle.delta_spaces.proofs.Looked.{taking_low}
use Rattle.delta_spaces.proofs.gathering.gather_lines.Goals as goal

pub line_of-requires-clause-line : goal.line_of-requires-clause-line
line_of-requires-clause-line c =
    taking_low (memory_of (state_of c.args.mem.now) c.args.saved) c.args.page c.args.numbers c.gathering.yielded _ c.gathering.lines.items c.in-Some.line c.next.new.self c.in-Some.ensures.steps
    c.gathering.invariant
