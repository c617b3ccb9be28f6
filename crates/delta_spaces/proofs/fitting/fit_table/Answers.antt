use Rattle.std.proofs.Common.{arith}
use Rattle.delta_spaces.proofs.Fitted.{fitting_end, fitting_next, fitting_none}
use Rattle.delta_spaces.proofs.Parts.{plain_here, rising}
use Rattle.delta_spaces.proofs.fitting.fit_table.Goals as goal

pub fitting-init : goal.fitting-init
fitting-init c = fitting_none c.args.table.now.pages c.args.pages.now (rising 0 c.args.pages.now c.requires.pages)

pub overflow_add-at : goal.overflow_add-at
overflow_add-at c =
    let plain = plain_here 0 c.args.pages.now c.fitting.page-index c.page-item.result c.page-item.result c.requires.pages c.fitting-test.true c.page-item.is in
    let low = plain.low in omega (arith, low)

pub fitting-preserved : goal.fitting-preserved
fitting-preserved c =
    fitting_next c.args.table.now.pages c.fitting.table.pages c.cut_pages.new.table.pages c.fit_page.new.table.pages c.args.pages.now c.fitting.page-index c.fitting.at
    c.page-item.result c.page-item.result c.fitting-test.true c.page-item.is c.fitting.invariant c.cut_pages.ensures c.fit_page.ensures

pub returns : goal.returns
returns c =
    fitting_end c.args.table.now.pages c.fitting.table.pages c.cut_pages-2.new.table.pages c.args.pages.now c.fitting.page-index c.fitting.at c.fitting-test.false c.fitting.invariant c.requires.low
    c.cut_pages-2.ensures
