use Rattle.space_ledger.proofs.Common.{sym, subst}
use Rattle.space_ledger.proofs.Views.{IsBooked}
use Rattle.space_ledger.proofs.LedgerCalls.{moved_call}
use Rattle.space_ledger.proofs.spaces.SpaceLedger.relocate.Goals as goal

pub invariant_of-self : goal.invariant_of-self
invariant_of-self c =
    subst (λ v. IsBooked v c.self.inside.pool c.self.inside.units c.self.inside.lines) (sym c.set_overlay.ensures.overlay)
    (moved_call c.self.inside.tables c.self.inside.pool c.self.inside.units c.self.inside.lines c.self.invariant c.space-space.result c.page-page.result c.in-Some.entry c.args.to c.in-Some.ensures.overlay).books
