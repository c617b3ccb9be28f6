use Rattle.std.proofs.Common.{◌≡◌, drop, take}
use Rattle.overlay_memory.specs.View.{state_of, translations_of}
use Rattle.delta_spaces.proofs.Put.{IsFilling}
use Rattle.delta_spaces.proofs.filling.put_pages.Given as goal

abbrev pub invariant-filling : goal.invariant-filling
invariant-filling l = record {
  so : IsFilling (state_of l.fn.mem) (state_of l.mem) l.to l.pages (take l.page-index l.pages) (drop l.page-index l.pages);
  lists : translations_of l.mem ≡ translations_of l.fn.mem;
}
