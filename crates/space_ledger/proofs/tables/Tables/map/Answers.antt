use Rattle.space_ledger.proofs.Seen.{free_in, shows}
use Rattle.space_ledger.proofs.TableOps.{either, mapped_made, on_ok, on_err, still_made}
use Rattle.space_ledger.proofs.tables.Tables.map.Goals as goal

pub map-requires-clause-free : goal.map-requires-clause-free
map-requires-clause-free c = free_in c.self.view_is c.self.invariant c.args.space c.in-Some.space.now c.in-Some.ensures.value c.args.from c.args.n c.requires.free

pub invariant_of-self : goal.invariant_of-self
invariant_of-self c = either c.map.result c.map.ensures.mapped c.map.ensures.kept
    (λ mapped. (mapped_made (shows c.self.view_is c.self.invariant) c.args.space c.in-Some.space.now c.map.new.self c.in-Some.ensures.value c.args.from c.args.n (record { perms = c.args.perms; frame = c.args.frame }) mapped c.map.ensures.overlaid c.map.ensures.bare c.requires.free c.requires.low).own)
    (λ kept. (still_made (shows c.self.view_is c.self.invariant) c.args.space c.in-Some.space.now c.map.new.self c.in-Some.ensures.value kept).own)

pub returns-clause-mapped : goal.returns-clause-mapped
returns-clause-mapped c = on_ok c.map.result c.map.ensures.mapped
    (λ mapped. (mapped_made (shows c.self.view_is c.self.invariant) c.args.space c.in-Some.space.now c.map.new.self c.in-Some.ensures.value c.args.from c.args.n (record { perms = c.args.perms; frame = c.args.frame }) mapped c.map.ensures.overlaid c.map.ensures.bare c.requires.free c.requires.low).is)

pub returns-clause-kept : goal.returns-clause-kept
returns-clause-kept c = on_err c.map.result c.map.ensures.kept (λ kept. (still_made (shows c.self.view_is c.self.invariant) c.args.space c.in-Some.space.now c.map.new.self c.in-Some.ensures.value kept).is)
