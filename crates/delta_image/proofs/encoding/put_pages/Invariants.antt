use Rattle.std.proofs.Common.{◌≡◌, ◌++◌, take}
use Rattle.delta_image.specs.Image.{pages_part}
use Rattle.delta_image.proofs.encoding.put_pages.Given as goal

abbrev pub invariant-pages : goal.invariant-pages
invariant-pages l = l.out.items ≡ l.fn.out.items ++ pages_part (take l.page-index l.pages)
