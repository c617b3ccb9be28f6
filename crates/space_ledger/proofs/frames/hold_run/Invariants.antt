use Rattle.space_ledger.proofs.Views.{held_by}
use Rattle.space_ledger.proofs.RunCounts.{units_held, HasCounted}
use Rattle.space_ledger.proofs.frames.hold_run.Given as goal

abbrev pub invariant-holding : goal.invariant-holding
invariant-holding l = HasCounted (held_by l.zero) (units_held l.zero) l.fn.pool l.pool l.units l.fn.run l.i
