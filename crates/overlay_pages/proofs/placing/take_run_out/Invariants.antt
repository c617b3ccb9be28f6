use Rattle.overlay_pages.proofs.RunLeaving.{HasLeft}
use Rattle.overlay_pages.proofs.placing.take_run_out.Given as goal

abbrev pub invariant-giving : goal.invariant-giving
invariant-giving l = HasLeft l.fn.store l.store l.fn.ledger l.space l.fn.run l.i
