use Rattle.space_ledger.proofs.Seen.{shows}
use Rattle.space_ledger.proofs.TableOps.{marked_made}
use Rattle.space_ledger.proofs.tables.Tables.set_speculating.Goals as goal

pub invariant_of-self : goal.invariant_of-self
invariant_of-self c = (marked_made (shows c.self.view_is c.self.invariant) c.args.space c.in-Some.space.now c.set_speculating.new.self c.in-Some.ensures.value c.args.on c.set_speculating.ensures.table c.set_speculating.ensures.overlaid).own

pub returns : goal.returns
returns c = (marked_made (shows c.self.view_is c.self.invariant) c.args.space c.in-Some.space.now c.set_speculating.new.self c.in-Some.ensures.value c.args.on c.set_speculating.ensures.table c.set_speculating.ensures.overlaid).is
