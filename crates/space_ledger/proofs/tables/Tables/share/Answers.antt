use Rattle.space_ledger.proofs.Common.{ap, subst, ◌∙◌}
use Rattle.space_ledger.proofs.Pages.{IsPut}
use Rattle.space_ledger.proofs.Views.{put_shared, put_over}
use Rattle.space_ledger.proofs.Seen.{Shows, shows}
use Rattle.space_ledger.proofs.Counting.{room_spare}
use Rattle.space_ledger.proofs.Changing.{made}
use Rattle.space_ledger.proofs.TableOps.{shared_made}
use Rattle.space_ledger.proofs.tables.Tables.share.Goals as goal
use Rattle.space_ledger.proofs.tables.Tables.share.Goals.{After-put}

pub put-requires-clause-room : goal.put-requires-clause-room
put-requires-clause-room c = room_spare (shows c.self.view_is c.self.invariant) c.of.result c.args.overlay c.requires.room

-- the tables with the page
done : (c : After-put) → Shows (made c.self.inside c.args.space c.share-entry.new.self c.put.new.overlays)
    (put_shared c.args.self.now c.args.space c.args.page (record { entry = c.share-entry.result; overlay = c.args.overlay }))
done c =
    shared_made (shows c.self.view_is c.self.invariant) c.args.space c.in-Some.space.now c.share-entry.new.self c.in-Some.ensures.value c.args.page c.args.overlay c.put.new.overlays
    c.requires.low c.requires.lined (room_spare (shows c.self.view_is c.self.invariant) _ c.args.overlay c.requires.room)
    (c.put.ensures.entries ∙ ap (λ n. put_over c.self.inside.overlays.entries n c.args.overlay) c.of.ensures.name) c.put.ensures.room
    (subst (λ b. IsPut c.in-Some.space.now.overlaid c.args.page b c.share-entry.new.self.overlaid) c.is_some.ensures c.share-entry.ensures.overlaid) c.share-entry.result c.share-entry.ensures.shared

pub invariant_of-self : goal.invariant_of-self
invariant_of-self c = (done c).own

pub returns-clause-shared : goal.returns-clause-shared
returns-clause-shared c = (done c).is
