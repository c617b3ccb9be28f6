use Rattle.std.proofs.Common.{take}
use Rattle.delta_image.proofs.Pages.{IsLength}
use Rattle.delta_image.proofs.encoding.pages_length.Given as goal

abbrev pub invariant-pages : goal.invariant-pages
invariant-pages l = IsLength l.length l.page-index (take l.page-index l.pages)
