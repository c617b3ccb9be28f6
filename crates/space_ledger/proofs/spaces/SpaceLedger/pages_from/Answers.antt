use Rattle.space_ledger.proofs.Common.{ap, sym, subst, ◌∙◌}
use Rattle.space_ledger.proofs.Views.{page_in, AreMapped, LedgerView}
use Rattle.space_ledger.proofs.Removing.{no_run_there, run_past, run_there}
use Rattle.space_ledger.proofs.spaces.SpaceLedger.pages_from.Goals as goal

pub returns-then-run-page-clause-there : goal.returns-then-run-page-clause-there
returns-then-run-page-clause-there c =
    subst (λ (v : LedgerView). AreMapped v c.args.space c.args.page c.in-Some.run'.n) c.self.view_is
    (run_there c.self.inside.tables c.args.space c.args.page c.in-Some.run' c.in-Some.ensures c.if-run-page.true)

pub returns-else-run-page-clause-none : goal.returns-else-run-page-clause-none
returns-else-run-page-clause-none c zero =
    ap (λ (v : LedgerView). page_in v c.args.space c.args.page) (sym c.self.view_is)
    ∙ run_past c.self.inside.tables c.args.space c.args.page c.in-Some.run' c.in-Some.ensures c.if-run-page.false

pub returns-in-None-clause-none : goal.returns-in-None-clause-none
returns-in-None-clause-none c zero =
    ap (λ (v : LedgerView). page_in v c.args.space c.args.page) (sym c.self.view_is) ∙ no_run_there c.self.inside.tables c.args.space c.args.page c.in-None.ensures
