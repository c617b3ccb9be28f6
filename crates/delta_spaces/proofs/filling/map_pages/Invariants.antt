use Rattle.std.proofs.Common.{◌≡◌, drop, take}
use Rattle.overlay_memory.specs.View.{state_of, translations_of}
use Rattle.delta_spaces.specs.Built.{CanMap}
use Rattle.delta_spaces.proofs.Mapped.{IsMapping}
use Rattle.delta_spaces.proofs.filling.map_pages.Given as goal

abbrev pub invariant-mapping : goal.invariant-mapping
invariant-mapping l = record {
  so : (ready : CanMap (state_of l.fn.mem) l.base l.to l.pages)
      → IsMapping ready.before (state_of l.mem) l.base l.to l.pages (take l.page-index l.pages) (drop l.page-index l.pages);
  lists : translations_of l.mem ≡ translations_of l.fn.mem;
}
