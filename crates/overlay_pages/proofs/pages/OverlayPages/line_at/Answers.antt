use Rattle.overlay_pages.proofs.Lending.{lent_outside, lent_value}
use Rattle.overlay_pages.proofs.pages.OverlayPages.line_at.Goals as goal

pub returns-in-Segment-clause-value : goal.returns-in-Segment-clause-value
returns-in-Segment-clause-value c =
    lent_value c.self.inside.store c.self.inside.ledger c.args.self.now c.args.found c.self.invariant c.self.view_is c.requires.found c.in-Segment.block c.in-Segment.is _ c.get.ensures.value

pub returns-in-Frame-clause-value : goal.returns-in-Frame-clause-value
returns-in-Frame-clause-value c =
    lent_outside c.self.inside.store c.self.inside.ledger c.args.self.now c.args.found c.self.invariant c.self.view_is c.requires.found c.in-Frame.frame c.in-Frame.is _ c.frame_line.ensures.value
