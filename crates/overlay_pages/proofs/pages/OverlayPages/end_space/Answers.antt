use Rattle.overlay_pages.proofs.Tables.{ended_joined}
use Rattle.overlay_pages.proofs.pages.OverlayPages.end_space.Goals as goal

pub invariant_of-self : goal.invariant_of-self
invariant_of-self c =
    ended_joined c.self.inside.store c.self.inside.ledger _ c.args.self.now c.args.space c.self.view_is c.self.invariant c.end_space.ensures c.requires.there c.requires.empty
