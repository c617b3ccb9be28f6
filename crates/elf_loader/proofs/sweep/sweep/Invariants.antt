use Rattle.std.proofs.Common.{◌≡◌, ◌≤◌, length, map, take}
use Rattle.sizes.specs.declared.TheConstants.{MOST_IMAGE_PAGES}
use Rattle.elf_loader.specs.Image.{page_numbers, page_given}
use Rattle.elf_loader.proofs.Reaching.{IsReachOf}
use Rattle.elf_loader.proofs.Filling.{touched_below}
use Rattle.elf_loader.proofs.Sweeping.{Stands}
use Rattle.elf_loader.proofs.sweep.sweep.Given as goal

-- the pages below the one where the last segment so far begins
abbrev pub invariant-loop-header : goal.invariant-loop-header
invariant-loop-header l = record {
  few : length l.pages.items ≤ MOST_IMAGE_PAGES;
  low : l.at ≤ page_numbers;
  stands : Stands l.sorted l.header-index l.at;
  is : IsReachOf (take l.header-index l.sorted) l.reach;
  pages : l.pages.items ≡ map (page_given l.sorted) (touched_below l.sorted l.at);
}
