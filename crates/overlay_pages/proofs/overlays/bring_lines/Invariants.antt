use Rattle.overlay_pages.proofs.Views.{view_of}
use Rattle.overlay_pages.proofs.Bringing.{HasBrought}
use Rattle.overlay_pages.proofs.overlays.bring_lines.Given as goal

abbrev pub invariant-bringing : goal.invariant-bringing
invariant-bringing l = HasBrought (view_of l.fn.store l.fn.ledger) (view_of l.store l.ledger) l.space l.page l.frame l.fn.lines l.line-iterator
