use Rattle.overlay_pages.proofs.Tables.{added_joined}
use Rattle.overlay_pages.proofs.pages.OverlayPages.add_space.Goals as goal

pub invariant_of-self : goal.invariant_of-self
invariant_of-self c =
    added_joined c.self.inside.store c.self.inside.ledger _ c.args.self.now c.args.space c.self.view_is c.self.invariant _ c.add_space.ensures.added c.add_space.ensures.kept c.requires.last c.requires.absent
