use Rattle.overlay_pages.proofs.Common.{None, ◌∙◌}
use Rattle.overlay_pages.proofs.Views.{view_of}
use Rattle.overlay_pages.proofs.Joining.{bare_state, page_with}
use Rattle.overlay_pages.proofs.overlays.drop_overlay.Goals as goal

pub returns-in_default-clause-state : goal.returns-in_default-clause-state
returns-in_default-clause-state c =
    bare_state (view_of c.args.store.now c.args.ledger.now) c.args.space c.args.page (page_with c.args.ledger.now c.args.space c.args.page c.requires.there None (c.requires.overlay ∙ c.in_default.is))
