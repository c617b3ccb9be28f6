use Rattle.space_ledger.proofs.Seen.{shows}
use Rattle.space_ledger.proofs.TableOps.{entry_made}
use Rattle.space_ledger.proofs.tables.Tables.set_entry.Goals as goal

pub invariant_of-self : goal.invariant_of-self
invariant_of-self c = (entry_made (shows c.self.view_is c.self.invariant) c.args.space c.in-Some.space.now c.set.new.self c.in-Some.ensures.value c.args.page c.args.entry c.set.ensures.table c.set.ensures.overlaid c.requires).own

pub returns : goal.returns
returns c = (entry_made (shows c.self.view_is c.self.invariant) c.args.space c.in-Some.space.now c.set.new.self c.in-Some.ensures.value c.args.page c.args.entry c.set.ensures.table c.set.ensures.overlaid c.requires).is
