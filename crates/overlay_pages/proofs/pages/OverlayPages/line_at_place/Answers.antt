use Rattle.overlay_pages.proofs.Common.{ap, subst, ◌∙◌}
use Rattle.overlay_pages.proofs.Stores.{line_of}
use Rattle.overlay_pages.proofs.Views.{IsJoined, MemoryView}
use Rattle.overlay_pages.proofs.Places.{place_value}
use Rattle.overlay_pages.proofs.pages.OverlayPages.line_at_place.Goals as goal

pub returns-clause-value : goal.returns-clause-value
returns-clause-value c =
    λ is. place_value c.args.self.now c.args.at (subst IsJoined c.self.view_is c.self.invariant) is _ (c.line.ensures.value ∙ ap (λ (m : MemoryView). line_of m.store.lines c.args.at) c.self.view_is)
