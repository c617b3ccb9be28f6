use Rattle.overlay_pages.proofs.Views.{view_of}
use Rattle.overlay_pages.proofs.Removing.{run_low}
use Rattle.overlay_pages.proofs.pages.OverlayPages.remove_run.Goals as goal

pub returns-in-Some-clause-low : goal.returns-in-Some-clause-low
returns-in-Some-clause-low c = run_low (view_of c.self.inside.store c.self.inside.ledger) c.args.space c.args.page c.in-Some.run'
    c.self.invariant c.in-Some.ensures.3 c.in-Some.ensures.0 c.in-Some.ensures.1
