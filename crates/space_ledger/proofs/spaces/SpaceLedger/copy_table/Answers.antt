use Rattle.space_ledger.proofs.LedgerCalls.{copied_once}
use Rattle.space_ledger.proofs.spaces.SpaceLedger.copy_table.Goals as goal

pub returns-clause-once : goal.returns-clause-once
returns-clause-once c = copied_once c.self.inside.tables c.args.self.now c.self.inside.pool c.self.inside.units c.self.inside.lines c.self.invariant c.args.space c.copy.result c.self.view_is c.copy.ensures
