use Rattle.std.proofs.Common.{◌≡◌, ◌++◌, length}
use Rattle.delta_image.specs.Image.{pages_part}
use Rattle.delta_image.specs.Fine.{Ascend, IsPage}
use Rattle.delta_image.proofs.Pages.{end_of}
use Rattle.delta_image.proofs.decoding.pages_at.Given as goal

abbrev pub invariant-pages : goal.invariant-pages
invariant-pages l = record {
  count : length l.pages.items ≡ l.counter;
  are : Ascend IsPage 0 l.pages.items;
  next : l.from ≡ end_of 0 l.pages.items;
  so_far : l.bytes ≡ pages_part l.pages.items ++ l.rest;
}
