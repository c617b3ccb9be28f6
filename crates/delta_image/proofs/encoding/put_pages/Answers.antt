use Rattle.delta_image.specs.Fine.{IsPlain}
use Rattle.delta_image.proofs.Pages.{ascend_at}
use Rattle.delta_image.proofs.encoding.put_pages.Goals as goal

pub put_page-requires : goal.put_page-requires
put_page-requires c = rw c.page-item.is (ascend_at IsPlain 0 c.args.pages.now c.pages.page-index _ c.requires c.pages-test.true)
