use Rattle.overlay_pages.proofs.Tables.{adopted_joined}
use Rattle.overlay_pages.proofs.pages.OverlayPages.adopt_table.Goals as goal

pub invariant_of-self : goal.invariant_of-self
invariant_of-self c =
    adopted_joined c.self.inside.store c.self.inside.ledger _ c.args.self.now c.args.to c.self.view_is c.self.invariant _ c.adopt_table.ensures c.requires.there
