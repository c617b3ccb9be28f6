use Rattle.space_ledger.proofs.Common.{ap, sym}
use Rattle.space_ledger.proofs.Views.{entries_of, LedgerView}
use Rattle.space_ledger.proofs.LedgerCalls.{named_once}
use Rattle.space_ledger.proofs.spaces.SpaceLedger.pages.Goals as goal

pub returns-clause-once : goal.returns-clause-once
returns-clause-once c =
    named_once c.self.inside.tables c.args.self.now c.self.inside.pool c.self.inside.units c.self.inside.lines c.self.invariant c.args.space (entries_of c.args.self.now c.args.space)
    c.self.view_is (ap (λ (v : LedgerView). entries_of v c.args.space) (sym c.self.view_is))
