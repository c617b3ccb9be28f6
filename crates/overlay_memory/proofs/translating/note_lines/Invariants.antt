use Rattle.overlay_memory.proofs.Noting.{IsNoted}
use Rattle.overlay_memory.proofs.translating.note_lines.Given as goal

abbrev pub invariant-noting : goal.invariant-noting
invariant-noting l = IsNoted l.space l.page l.fn.lines l.yielded l.line-iterator l.fn.cache l.cache
