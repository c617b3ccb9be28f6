use Rattle.overlay_pages.proofs.Views.{state_of}
use Rattle.overlay_pages.proofs.Kept.{IsKeeping}
use Rattle.overlay_pages.proofs.rebasing.keep_lines.Given as goal

abbrev pub invariant-keeping : goal.invariant-keeping
invariant-keeping l = IsKeeping (state_of l.pages) l.page.space l.page.page l.fn.bits l.line-iterator l.at 31 l.kept
