use Rattle.overlay_bits.proofs.Pages.{IsSoFar}
use Rattle.overlay_bits.proofs.composed.compose.Given as goal

abbrev pub invariant-composing : goal.invariant-composing
invariant-composing l = IsSoFar l.frame l.over l.bits l.out l.line
