use Rattle.space_ledger.proofs.Common.{arith}
use Rattle.space_ledger.proofs.Parts.{mapped, parts, table_is}
use Rattle.space_ledger.proofs.space.Space.map.Goals as goal

pub invariant_of-self : goal.invariant_of-self
invariant_of-self c =
    (mapped c.self.inside.table.pages _ c.self.inside.end c.args.from c.args.n c.self.inside.count
    (record { perms = c.args.perms; frame = c.args.frame }) c.self.inside.speculating _ (table_is c.self.view_is) c.requires.none_awaits c.in-Ok.ensures.mapped c.in-Ok.ensures.count c.requires.low c.self.invariant).1

pub returns-in-Ok-clause-mapped : goal.returns-in-Ok-clause-mapped
returns-in-Ok-clause-mapped c =
    (mapped c.self.inside.table.pages _ c.self.inside.end c.args.from c.args.n c.self.inside.count
    (record { perms = c.args.perms; frame = c.args.frame }) c.self.inside.speculating _ (table_is c.self.view_is) c.requires.none_awaits c.in-Ok.ensures.mapped c.in-Ok.ensures.count c.requires.low c.self.invariant).0

pub returns-in-Ok-clause-bare : goal.returns-in-Ok-clause-bare
returns-in-Ok-clause-bare c page within = let free = c.requires.free page within in let there = c.map_pages.ensures.there page in grind (arith, parts, free, there)
