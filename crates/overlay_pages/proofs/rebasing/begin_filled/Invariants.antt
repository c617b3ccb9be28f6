use Rattle.overlay_pages.proofs.Views.{by_rank}
use Rattle.overlay_pages.proofs.GivenLines.{IsFilling}
use Rattle.overlay_pages.proofs.rebasing.begin_filled.Given as goal

abbrev pub invariant-filling : goal.invariant-filling
invariant-filling l = IsFilling l.fn.store l.store l.fn.owner l.block l.fn.bits l.line-iterator l.at (by_rank l.fn.bits l.kept)
