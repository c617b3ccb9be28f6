use Rattle.space_ledger.proofs.Views.{released_by}
use Rattle.space_ledger.proofs.RunCounts.{units_released, HasCounted}
use Rattle.space_ledger.proofs.frames.release_run.Given as goal

abbrev pub invariant-releasing : goal.invariant-releasing
invariant-releasing l = HasCounted (released_by l.zero) (units_released l.zero) l.fn.pool l.pool l.units l.fn.run l.i
