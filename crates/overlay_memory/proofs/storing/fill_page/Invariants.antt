use Rattle.std.proofs.Common.{◌≡◌, ◌+◌, ◌-◌, ◌*◌, ◌≤◌, length, take}
use Rattle.overlay_pages.specs.View.{state_of}
use Rattle.overlay_memory.specs.Pieces.{IsFilled}
use Rattle.overlay_memory.proofs.storing.fill_page.Given as goal

-- the first bytes are there, and the tables are as they were
abbrev pub invariant-filling : goal.invariant-filling
invariant-filling l = record {
  within : l.done ≤ length l.bytes;
  filled : IsFilled (state_of l.fn.pages) (state_of l.pages) l.page.space (4096 * l.page.page + l.at) (take l.done l.bytes);
  table : l.pages.table ≡ l.fn.pages.table;
}

abbrev pub decreases-filling : goal.decreases-filling
decreases-filling l = length l.bytes - l.done
