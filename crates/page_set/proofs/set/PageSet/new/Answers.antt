use Rattle.std.proofs.Common.{subst, sym}
use Rattle.page_set.specs.Kept.{AreSetRows}
use Rattle.page_set.proofs.Kept.{kept_none}
use Rattle.page_set.proofs.set.PageSet.new.Goals as goal

pub invariant_of-result : goal.invariant_of-result
invariant_of-result c = subst AreSetRows (sym c.new.ensures.items) kept_none
