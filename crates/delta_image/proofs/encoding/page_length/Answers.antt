use Rattle.std.proofs.Common.{length, ap, arith}
use Rattle.delta_image.specs.Image.{lines_part}
use Rattle.delta_image.specs.LengthLaws.{lines_length, page_length}
use Rattle.delta_image.proofs.Pages.{lines_few}
use Rattle.delta_image.proofs.encoding.page_length.Goals as goal

pub lines_length-requires : goal.lines_length-requires
lines_length-requires c = omega (arith, lines_few c.args.page.now c.requires, ap length c.as_slice.ensures)

pub overflow_add-result : goal.overflow_add-result
overflow_add-result c =
    let whole = c.lines_length.ensures.whole in
    record { fits = omega (arith, c.lines_length.ensures.length, lines_length c.as_slice.result.now whole, lines_few c.args.page.now c.requires, ap length c.as_slice.ensures) }

pub returns-clause-length : goal.returns-clause-length
returns-clause-length c = omega (arith, c.lines_length.ensures.length, page_length c.args.page.now, ap (λ ls. length (lines_part ls)) c.as_slice.ensures)
