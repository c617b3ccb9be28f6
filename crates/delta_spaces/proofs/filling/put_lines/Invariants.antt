use Rattle.std.proofs.Common.{◌≡◌}
use Rattle.overlay_memory.specs.View.{state_of, translations_of}
use Rattle.delta_spaces.proofs.Put.{IsPutting}
use Rattle.delta_spaces.proofs.filling.put_lines.Given as goal

abbrev pub invariant-putting : goal.invariant-putting
invariant-putting l = record {
  so : IsPutting (state_of l.fn.mem) (state_of l.mem) l.to l.page l.line-index;
  lists : translations_of l.mem ≡ translations_of l.fn.mem;
}
