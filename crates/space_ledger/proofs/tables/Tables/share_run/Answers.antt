use Rattle.space_ledger.proofs.Common.{◌+◌}
use Rattle.space_ledger.proofs.Seen.{absent_is, shows}
use Rattle.space_ledger.proofs.TableOps.{run_made}
use Rattle.space_ledger.proofs.tables.Tables.share_run.Goals as goal

pub invariant_of-self : goal.invariant_of-self
invariant_of-self c = (run_made (shows c.self.view_is c.self.invariant) c.args.space c.in-Some.space.now c.share_run.new.self c.in-Some.ensures.value c.args.run.now c.share_run.ensures.shared c.share_run.ensures.apart c.requires.low c.share_run.ensures.overlaid).own

pub returns-clause-shared : goal.returns-clause-shared
returns-clause-shared c = (run_made (shows c.self.view_is c.self.invariant) c.args.space c.in-Some.space.now c.share_run.new.self c.in-Some.ensures.value c.args.run.now c.share_run.ensures.shared c.share_run.ensures.apart c.requires.low c.share_run.ensures.overlaid).is

pub returns-clause-apart : goal.returns-clause-apart
returns-clause-apart c i low = absent_is c.self.view_is c.self.invariant c.args.space c.in-Some.space.now c.in-Some.ensures.value (c.args.run.now.page + i) (c.share_run.ensures.apart i low)
