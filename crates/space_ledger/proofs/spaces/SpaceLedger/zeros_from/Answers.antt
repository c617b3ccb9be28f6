use Rattle.space_ledger.proofs.Common.{◌≡◌, ◌+◌, None, sym, subst, ◌∙◌}
use Rattle.space_ledger.proofs.Views.{LedgerView, overlay_at, AreBareOnZero}
use Rattle.space_ledger.proofs.Removing.{zeros_of_run}
use Rattle.space_ledger.proofs.spaces.SpaceLedger.zeros_from.Goals as goal

pub returns-in-Some : goal.returns-in-Some
returns-in-Some c =
    subst (λ (v : LedgerView). AreBareOnZero v c.args.space c.args.page c.bare_from.result) c.self.view_is
    (zeros_of_run c.self.inside.tables c.args.space c.args.page c.in-Some.run' c.bare_from.result c.zeros_in.result c.in-Some.ensures
    c.bare_from.ensures.few c.zeros_in.ensures.few c.zeros_in.ensures.start
    (λ i less. c.zeros_in.ensures.zeros i less ∙ c.zero.ensures.zero)
    (λ i less. subst (λ (v : LedgerView). overlay_at v c.args.space (c.args.page + i) ≡ None) (sym c.self.view_is) (c.bare_from.ensures.bare i less)))
