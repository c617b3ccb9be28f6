use Rattle.std.proofs.Common.{◌∙◌}
use Rattle.segment_store.proofs.Behind.{page_before}
use Rattle.segment_store.proofs.lines.StoreLines.page.Goals as goal

pub returns : goal.returns
returns c = c.page.ensures.value ∙ page_before c.self.inside.units c.self.inside.scratch c.args.self.now c.self.view_is c.self.invariant.0 c.args.at c.requires.there
