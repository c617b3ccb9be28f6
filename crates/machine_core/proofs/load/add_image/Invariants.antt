use Rattle.std.proofs.Common.{◌≡◌, ◌-◌, ◌≤◌, length, take}
use Rattle.elf_loader.specs.Image.{image_page, image_pages, is_stored}
use Rattle.overlay_memory.specs.View.{state_of, translations_of}
use Rattle.machine_core.specs.Loading.{HasAdded}
use Rattle.machine_core.proofs.load.add_image.Given as goal

-- the pages of the image so far; nothing was translated
abbrev pub invariant-adding : goal.invariant-adding
invariant-adding l = record {
  added : HasAdded (state_of l.fn.memory) (state_of l.memory) l.p (image_page l.file) (is_stored l.file) (take l.at (image_pages l.file));
  lists : translations_of l.memory ≡ translations_of l.fn.memory;
  within : l.at ≤ length (image_pages l.file);
}

abbrev pub decreases-adding : goal.decreases-adding
decreases-adding l = length (image_pages l.file) - l.at
