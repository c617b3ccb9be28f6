use Rattle.space_ledger.proofs.Common.{◌≡◌, ◌+◌, None, sym, subst, arith}
use Rattle.space_ledger.proofs.Views.{LedgerView, overlay_at, IsBareFrom}
use Rattle.space_ledger.proofs.RunRemoved.{bare_of_run}
use Rattle.space_ledger.proofs.spaces.SpaceLedger.bare_run.Goals as goal

pub returns-in-Some : goal.returns-in-Some
returns-in-Some c =
    let least = c.min.ensures in
    let few = c.bare_from-n.ensures.few in
    subst (λ (v : LedgerView). IsBareFrom v c.args.space c.args.page c.args.most c.start_of.result) c.self.view_is
    (bare_of_run c.self.inside.tables c.args.space c.args.page c.args.most c.bare_from-n.result c.in-Some.run'
    c.start_of.result c.in-Some.ensures (omega (arith, least, few)) (omega (arith, least, few))
    (λ i less. subst (λ (v : LedgerView). overlay_at v c.args.space (c.args.page + i) ≡ None) (sym c.self.view_is) (c.bare_from-n.ensures.bare i less)) c.start_of.ensures)
