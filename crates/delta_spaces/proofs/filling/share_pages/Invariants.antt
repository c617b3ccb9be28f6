use Rattle.std.proofs.Common.{◌≡◌, drop, take}
use Rattle.overlay_memory.specs.View.{state_of, translations_of}
use Rattle.delta_spaces.proofs.Begun.{IsSharing}
use Rattle.delta_spaces.proofs.filling.share_pages.Given as goal

abbrev pub invariant-sharing : goal.invariant-sharing
invariant-sharing l = record {
  so : IsSharing (state_of l.fn.mem) (state_of l.mem) l.base l.to l.pages (take l.page-index l.pages) (drop l.page-index l.pages);
  lists : translations_of l.mem ≡ translations_of l.fn.mem;
}
