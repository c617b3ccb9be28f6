use Rattle.std.proofs.Common.{arith}
use Rattle.overlay_memory.specs.View.{state_of}
use Rattle.delta_spaces.proofs.Counting.{counting_more, counting_none}
use Rattle.delta_spaces.proofs.Parts.{plain_here}
use Rattle.delta_spaces.proofs.units.units_built.Goals as goal

pub counting-init : goal.counting-init
counting-init c = counting_none (state_of c.args.mem.now) c.args.base c.args.pages.now c.units-units.result c.units-units.ensures.sum c.units-units.ensures.few

pub page_units-units-requires : goal.page_units-units-requires
page_units-units-requires c =
    record { plain = plain_here 0 c.args.pages.now c.counting.page-index c.page-item.result c.page-item.result c.requires.pages c.counting-test.true c.page-item.is }

pub counting-preserved : goal.counting-preserved
counting-preserved c =
    counting_more (state_of c.args.mem.now) c.args.base c.args.pages.now c.counting.units c.counting.page-index c.page_units-units.result _ c.page-item.result c.page-item.result
    c.counting.invariant c.counting-test.true c.page-item.is c.page_units-units.ensures.sum c.page_units-units.ensures.few (omega arith)
