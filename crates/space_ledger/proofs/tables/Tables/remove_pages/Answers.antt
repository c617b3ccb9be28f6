use Rattle.space_ledger.proofs.Seen.{bare_in, shows}
use Rattle.space_ledger.proofs.TableOps.{cut_made}
use Rattle.space_ledger.proofs.tables.Tables.remove_pages.Goals as goal

pub remove_pages-requires : goal.remove_pages-requires
remove_pages-requires c = bare_in c.self.view_is c.self.invariant c.args.space c.in-Some.space.now c.in-Some.ensures.value c.args.from c.args.n c.requires.bare

pub invariant_of-self : goal.invariant_of-self
invariant_of-self c = (cut_made (shows c.self.view_is c.self.invariant) c.args.space c.in-Some.space.now c.remove_pages.new.self c.in-Some.ensures.value c.args.from c.args.n c.remove_pages.ensures.table c.remove_pages.ensures.overlaid c.requires.bare).own

pub returns : goal.returns
returns c = (cut_made (shows c.self.view_is c.self.invariant) c.args.space c.in-Some.space.now c.remove_pages.new.self c.in-Some.ensures.value c.args.from c.args.n c.remove_pages.ensures.table c.remove_pages.ensures.overlaid c.requires.bare).is
