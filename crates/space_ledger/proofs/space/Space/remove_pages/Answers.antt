use Rattle.space_ledger.proofs.Parts.{table_is}
use Rattle.space_ledger.proofs.Removing.{unmapped}
use Rattle.space_ledger.proofs.space.Space.remove_pages.Goals as goal

pub overflow_sub-self : goal.overflow_sub-self
overflow_sub-self c =
    (unmapped c.self.inside.table.pages _ c.self.inside.end c.args.from c.args.n c.self.inside.count c.self.inside.speculating _ (table_is c.self.view_is)
    c.unmap.ensures.unmapped c.requires c.self.invariant).2

pub invariant_of-self : goal.invariant_of-self
invariant_of-self c =
    (unmapped c.self.inside.table.pages _ c.self.inside.end c.args.from c.args.n c.self.inside.count c.self.inside.speculating _ (table_is c.self.view_is)
    c.unmap.ensures.unmapped c.requires c.self.invariant).1

pub returns-clause-table : goal.returns-clause-table
returns-clause-table c =
    (unmapped c.self.inside.table.pages _ c.self.inside.end c.args.from c.args.n c.self.inside.count c.self.inside.speculating _ (table_is c.self.view_is)
    c.unmap.ensures.unmapped c.requires c.self.invariant).0
