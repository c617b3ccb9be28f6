use Rattle.overlay_pages.proofs.Tables.{seen_few}
use Rattle.overlay_pages.proofs.pages.OverlayPages.store_units.Goals as goal

pub returns-clause-few : goal.returns-clause-few
returns-clause-few c =
    seen_few c.self.inside.store c.self.inside.ledger c.self.inside.ledger c.args.self.now c.args.space c.self.view_is c.self.invariant c.args.page c.args.lines c.store_units.result c.requires.there c.store_units.ensures.rise
