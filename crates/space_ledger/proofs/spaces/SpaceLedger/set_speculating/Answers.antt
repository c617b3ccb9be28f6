use Rattle.space_ledger.proofs.Common.{sym, ap, subst, ◌∙◌}
use Rattle.space_ledger.proofs.Views.{holds_space, LedgerView, IsBooked}
use Rattle.space_ledger.proofs.Booked.{booked_mark}
use Rattle.space_ledger.proofs.spaces.SpaceLedger.set_speculating.Goals as goal

pub invariant_of-self : goal.invariant_of-self
invariant_of-self c =
    subst (λ v. IsBooked v c.self.inside.pool c.self.inside.units c.self.inside.lines) (sym c.set_speculating.ensures)
    (booked_mark c.self.invariant c.args.space c.args.on (ap (λ (v : LedgerView). holds_space v c.args.space) c.self.view_is ∙ c.requires))
