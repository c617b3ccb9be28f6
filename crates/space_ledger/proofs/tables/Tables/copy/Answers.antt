use Rattle.space_ledger.proofs.Common.{◌≡◌, IfOk, subst}
use Rattle.space_ledger.proofs.Pages.{Pages}
use Rattle.space_ledger.proofs.Seen.{entries_is}
use Rattle.space_ledger.proofs.tables.Tables.copy.Goals as goal

pub returns : goal.returns
returns c =
    subst (λ (m : Pages). IfOk c.copy.result (λ copy. copy.pages ≡ m))
    (entries_is c.self.view_is c.self.invariant c.args.space c.in-Some.space.now c.in-Some.ensures) c.copy.ensures
