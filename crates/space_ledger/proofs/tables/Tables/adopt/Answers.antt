use Rattle.space_ledger.proofs.Seen.{shows}
use Rattle.space_ledger.proofs.TableOps.{adopted_made}
use Rattle.space_ledger.proofs.tables.Tables.adopt.Goals as goal

pub invariant_of-self : goal.invariant_of-self
invariant_of-self c = (adopted_made (shows c.self.view_is c.self.invariant) c.args.space c.in-Some.space.now c.adopt.new.self c.in-Some.ensures.value c.args.table.pages c.adopt.ensures c.requires.empty).own

pub returns : goal.returns
returns c = (adopted_made (shows c.self.view_is c.self.invariant) c.args.space c.in-Some.space.now c.adopt.new.self c.in-Some.ensures.value c.args.table.pages c.adopt.ensures c.requires.empty).is
