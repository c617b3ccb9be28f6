use Rattle.overlay_pages.proofs.Views.{view_of}
use Rattle.overlay_pages.proofs.Removing.{mapped_low}
use Rattle.overlay_pages.proofs.pages.OverlayPages.pages_from.Goals as goal

pub returns-clause-low : goal.returns-clause-low
returns-clause-low c some = mapped_low (view_of c.self.inside.store c.self.inside.ledger) c.args.space c.args.page c.pages_from.result c.self.invariant c.pages_from.ensures.there some
