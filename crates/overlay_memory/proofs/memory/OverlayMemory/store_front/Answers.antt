use Rattle.overlay_memory.specs.View.{AreTranslated}
use Rattle.overlay_memory.proofs.Truths.{tried_translated}
use Rattle.overlay_memory.proofs.memory.OverlayMemory.store_front.Goals as goal
use Rattle.overlay_memory.proofs.memory.OverlayMemory.store_front.Goals.{After-store_front}
use Rattle.overlay_pages.specs.View.{state_of}

-- what is true of the pages and the translations then
tried : (c : After-store_front) → AreTranslated (state_of c.store_front.new.pages) c.store_front.new.cache
tried c =
    tried_translated c.self.inside.pages c.store_front.new.pages c.args.space c.args.address c.args.bytes.now c.store_front.result c.store_front.new.cache
    c.store_front.ensures.stores (λ e. (c.store_front.ensures.kept e).0) c.store_front.ensures.held c.self.invariant.0.apart c.self.invariant.0.small

pub invariant_of-self : goal.invariant_of-self
invariant_of-self c = (tried (goal.at.invariant_of-self c).After-store_front, c.store_front.ensures.fronts)

pub returns-clause-small : goal.returns-clause-small
returns-clause-small c = (tried (goal.at.returns-clause-small c).After-store_front).small
