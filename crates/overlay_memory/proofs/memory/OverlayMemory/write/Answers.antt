use Rattle.overlay_pages.specs.View.{state_of}
use Rattle.overlay_memory.specs.View.{AreTranslated}
use Rattle.overlay_memory.proofs.Truths.{stored_translated}
use Rattle.overlay_memory.proofs.Fronting.{none_known}
use Rattle.overlay_memory.proofs.memory.OverlayMemory.write.Goals as goal
use Rattle.overlay_memory.proofs.memory.OverlayMemory.write.Goals.{After-write_pages}

-- what is true of the pages and the translations then
translated : (c : After-write_pages) → AreTranslated (state_of c.write_pages.new.pages) c.write_pages.new.cache
translated c =
    stored_translated c.self.inside.pages c.write_pages.new.pages c.args.space c.args.address c.args.bytes.now c.write_pages.result c.write_pages.new.cache
    c.write_pages.ensures.stores c.write_pages.ensures.held c.self.invariant.0.apart c.self.invariant.0.small

pub invariant_of-self : goal.invariant_of-self
invariant_of-self c = (translated (goal.at.invariant_of-self c).After-write_pages, none_known _ _ _ c.clear.ensures)

pub returns-clause-small : goal.returns-clause-small
returns-clause-small c = (translated (goal.at.returns-clause-small c).After-write_pages).small
