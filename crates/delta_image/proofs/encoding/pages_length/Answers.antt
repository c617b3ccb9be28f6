use Rattle.std.proofs.Common.{length, ap, subst, ◌∙◌, arith}
use Rattle.delta_image.specs.Image.{page_part}
use Rattle.delta_image.specs.Fine.{HasLines, IsPlain}
use Rattle.delta_image.proofs.Pages.{ascend_at, length_more}
use Rattle.delta_image.proofs.encoding.pages_length.Goals as goal

pub page_length-length-requires : goal.page_length-length-requires
page_length-length-requires c = rw c.page-item.is (ascend_at IsPlain 0 c.args.pages.now c.pages.page-index _ c.requires.pages c.pages-test.true)

pub pages-preserved : goal.pages-preserved
pages-preserved c =
    length_more c.args.pages.now c.pages.page-index c.pages.length c.page_length-length.result c.page-item.result c.pages-test.true c.requires.pages
    (c.page_length-length.ensures.length ∙ ap (λ page. length (page_part page)) c.page-item.is)
    (subst HasLines c.page-item.is c.page_length-length.ensures.whole) c.pages.invariant

pub overflow_add-length : goal.overflow_add-length
overflow_add-length c =
    let next =
    length_more c.args.pages.now c.pages.page-index c.pages.length c.page_length-length.result c.page-item.result c.pages-test.true c.requires.pages
    (c.page_length-length.ensures.length ∙ ap (λ page. length (page_part page)) c.page-item.is)
    (subst HasLines c.page-item.is c.page_length-length.ensures.whole) c.pages.invariant in
    record { fits = omega (arith, next.small, c.requires.few, c.pages-test.true) }
