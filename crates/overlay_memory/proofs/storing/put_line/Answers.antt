use Rattle.std.proofs.Common.{arith}
use Rattle.overlay_memory.specs.Joined.{page_low}
use Rattle.overlay_memory.proofs.storing.put_line.Goals as goal

pub overflow_mul-address : goal.overflow_mul-address
overflow_mul-address c =
    let low = page_low c.args.pages.now c.find_page.ensures.joined c.args.space c.args.page c.requires.there in omega (arith, low)

pub overflow_add-address : goal.overflow_add-address
overflow_add-address c =
    let low = page_low c.args.pages.now c.find_page.ensures.joined c.args.space c.args.page c.requires.there in omega (arith, low, c.from.ensures, c.requires.line)
