use Rattle.space_ledger.proofs.Common.{sym, ap, subst, ◌∙◌}
use Rattle.space_ledger.proofs.Views.{holds_space, space_in, LedgerView, IsBooked, NamesOnce}
use Rattle.space_ledger.proofs.Booked.{booked_adopted}
use Rattle.space_ledger.proofs.spaces.SpaceLedger.adopt_table.Goals as goal

pub invariant_of-self : goal.invariant_of-self
invariant_of-self c =
    subst (λ v. IsBooked v c.self.inside.pool c.self.inside.units c.self.inside.lines) (sym c.adopt.ensures)
    (booked_adopted c.self.invariant c.args.to c.args.table.pages (ap (λ (v : LedgerView). holds_space v c.args.to) c.self.view_is ∙ c.requires.there)
    (ap (λ (v : LedgerView). (space_in v c.args.to).pages) c.self.view_is ∙ c.requires.empty)
    (subst (λ (v : LedgerView). NamesOnce v.zero_frame c.args.table.pages) (sym c.self.view_is) c.requires.once))
