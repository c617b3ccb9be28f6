use Rattle.space_ledger.proofs.Common.{sym, ap, subst, ◌∙◌}
use Rattle.space_ledger.proofs.Views.{holds_space, space_in, LedgerView, IsBooked}
use Rattle.space_ledger.proofs.Booked.{booked_lost}
use Rattle.space_ledger.proofs.spaces.SpaceLedger.end_space.Goals as goal

pub invariant_of-self : goal.invariant_of-self
invariant_of-self c =
    subst (λ v. IsBooked v c.self.inside.pool c.self.inside.units c.self.inside.lines) (sym c.end.ensures)
    (booked_lost c.self.invariant c.args.space (ap (λ (v : LedgerView). holds_space v c.args.space) c.self.view_is ∙ c.requires.there)
    (ap (λ (v : LedgerView). (space_in v c.args.space).pages) c.self.view_is ∙ c.requires.empty))
