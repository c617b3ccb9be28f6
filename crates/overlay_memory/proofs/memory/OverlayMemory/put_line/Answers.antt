use Rattle.overlay_pages.specs.View.{state_of}
use Rattle.overlay_memory.specs.Access.{line_address}
use Rattle.overlay_memory.specs.View.{AreTranslated}
use Rattle.overlay_memory.proofs.Truths.{put_stored_translated}
use Rattle.overlay_memory.proofs.Fronting.{none_known}
use Rattle.overlay_memory.proofs.memory.OverlayMemory.put_line.Goals as goal
use Rattle.overlay_memory.proofs.memory.OverlayMemory.put_line.Goals.{After-put_line}

-- what is true of the pages and the translations then
translated : (c : After-put_line) → AreTranslated (state_of c.put_line.new.pages) c.put_line.new.cache
translated c =
    put_stored_translated (state_of c.self.inside.pages) (state_of c.put_line.new.pages) c.args.space (line_address c.args.page c.args.line) c.args.bytes.now c.put_line.new.cache
    c.put_line.ensures.stored c.put_line.ensures.held c.self.invariant.0.apart c.self.invariant.0.small

pub invariant_of-self : goal.invariant_of-self
invariant_of-self c = (translated (goal.at.invariant_of-self c).After-put_line, none_known _ _ _ c.clear.ensures)

pub returns-clause-small : goal.returns-clause-small
returns-clause-small c = (translated (goal.at.returns-clause-small c).After-put_line).small
