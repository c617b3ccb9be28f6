use Rattle.std.proofs.Common.{drop}
use Rattle.delta_spaces.proofs.Fitted.{IsFitting}
use Rattle.delta_spaces.proofs.fitting.fit_table.Given as goal

abbrev pub invariant-fitting : goal.invariant-fitting
invariant-fitting l = IsFitting l.fn.table.pages l.table.pages l.pages (drop l.page-index l.pages) l.at
