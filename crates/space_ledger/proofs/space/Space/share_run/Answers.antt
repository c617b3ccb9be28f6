use Rattle.space_ledger.proofs.Common.{ap}
use Rattle.space_ledger.proofs.Pages.{Table}
use Rattle.space_ledger.proofs.Parts.{table_is}
use Rattle.space_ledger.proofs.RunParts.{run_shared}
use Rattle.space_ledger.proofs.space.Space.share_run.Goals as goal

pub invariant_of-self : goal.invariant_of-self
invariant_of-self c =
    (run_shared c.self.inside.table.pages _ c.self.inside.end c.self.inside.count c.from.result c.self.inside.speculating c.args.run.now _ (table_is c.self.view_is)
    c.requires.first c.from.ensures (ap (λ (t : Table). t.pages) c.clear_overlaid.ensures.rest) c.self.invariant).1

pub returns-clause-shared : goal.returns-clause-shared
returns-clause-shared c =
    (run_shared c.self.inside.table.pages _ c.self.inside.end c.self.inside.count c.from.result c.self.inside.speculating c.args.run.now _ (table_is c.self.view_is)
    c.requires.first c.from.ensures (ap (λ (t : Table). t.pages) c.clear_overlaid.ensures.rest) c.self.invariant).0
