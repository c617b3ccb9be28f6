use Rattle.std.proofs.Common.{◌+◌, sym, subst}
use Rattle.overlay_pages.specs.Calls.{AreMapped}
use Rattle.overlay_memory.specs.View.{TranslatedView, state_of}
use Rattle.overlay_memory.proofs.Unmapping.{IsGoing, going_none, going_on}
use Rattle.overlay_memory.proofs.memory.OverlayMemory.first_absent.Goals as goal

pub going-init : goal.going-init
going-init c = going_none (state_of c.args.self.now) c.args.space c.args.page

pub going-preserved : goal.going-preserved
going-preserved c =
    subst (λ k. IsGoing (state_of c.args.self.now) c.args.space c.args.page (c.going.at + k)) (sym c.from-at.ensures)
    (going_on (state_of c.args.self.now) c.args.space c.args.page c.going.at c.pages_from-there.result c.going.invariant
    (subst (λ (m : TranslatedView). AreMapped (state_of m) c.args.space c.going.at c.pages_from-there.result) c.self.view_is c.pages_from-there.ensures.there))
