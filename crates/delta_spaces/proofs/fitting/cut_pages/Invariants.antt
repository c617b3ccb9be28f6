use Rattle.std.proofs.Common.{◌-◌}
use Rattle.delta_spaces.proofs.Fitted.{IsCutting}
use Rattle.delta_spaces.proofs.fitting.cut_pages.Given as goal

abbrev pub invariant-cutting : goal.invariant-cutting
invariant-cutting l = IsCutting l.fn.table.pages l.table.pages l.from l.until l.at

abbrev pub decreases-cutting : goal.decreases-cutting
decreases-cutting l = l.until - l.at
