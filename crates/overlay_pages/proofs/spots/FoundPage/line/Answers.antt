use Rattle.overlay_pages.proofs.Common.{sym, subst, ◌∙◌}
use Rattle.overlay_pages.proofs.Views.{IsSpot}
use Rattle.overlay_pages.proofs.Found.{frame_spot, line_found, own_spot}
use Rattle.overlay_pages.proofs.spots.FoundPage.line.Goals as goal
use Rattle.overlay_pages.proofs.spots.FoundPage.line.Goals.{then-has, else-has}

pub returns : goal.returns
returns c = λ view is. line_found view c.args.self is c.args.line c.if-has.spot c.requires (elim c.if-has.branch [
  | then-has w ↦
      subst (IsSpot view.table c.args.self.space c.args.self.page c.args.line) (sym w.spot-is)
      (own_spot view c.args.self is c.args.line (sym c.has.ensures.has ∙ w.if-has.true))
  | else-has w ↦
      subst (IsSpot view.table c.args.self.space c.args.self.page c.args.line) (sym w.spot-is)
      (frame_spot view c.args.self is c.args.line (sym c.has.ensures.has ∙ w.if-has.false))
])
