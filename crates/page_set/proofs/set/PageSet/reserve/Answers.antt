use Rattle.std.proofs.Common.{subst, sym}
use Rattle.page_set.specs.Kept.{AreSetRows}
use Rattle.page_set.proofs.set.PageSet.reserve.Goals as goal

pub returns-in_err-reserve-clause-are : goal.returns-in_err-reserve-clause-are
returns-in_err-reserve-clause-are c = (subst AreSetRows (sym c.in_err-reserve.ensures.items) c.self.invariant).are

pub returns-clause-are : goal.returns-clause-are
returns-clause-are c = (subst AreSetRows (sym c.in_ok-reserve.ensures.items) c.self.invariant).are
