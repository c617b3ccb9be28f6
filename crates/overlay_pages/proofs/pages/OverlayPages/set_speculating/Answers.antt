use Rattle.overlay_pages.proofs.Tables.{marked_joined}
use Rattle.overlay_pages.proofs.pages.OverlayPages.set_speculating.Goals as goal

pub invariant_of-self : goal.invariant_of-self
invariant_of-self c =
    marked_joined c.self.inside.store c.self.inside.ledger _ c.args.self.now c.args.space c.self.view_is c.self.invariant _ c.set_speculating.ensures c.requires.there
