use Rattle.space_ledger.proofs.Common.{IfSome, sym, ap, subst, ◌∙◌}
use Rattle.space_ledger.proofs.Pages.{IsPut, HasRoomFor}
use Rattle.space_ledger.proofs.Views.{with_overlay, put_over}
use Rattle.space_ledger.proofs.Seen.{Shows, low_is, shows}
use Rattle.space_ledger.proofs.Counting.{room_for}
use Rattle.space_ledger.proofs.Changing.{made}
use Rattle.space_ledger.proofs.TableOps.{over_made}
use Rattle.space_ledger.proofs.tables.Tables.set_overlay.Goals as goal
use Rattle.space_ledger.proofs.tables.Tables.set_overlay.Goals.{After-put}

pub put-requires-clause-room : goal.put-requires-clause-room
put-requires-clause-room c =
    subst (λ n. IfSome c.args.overlay (λ e. HasRoomFor c.self.inside.overlays n)) (sym c.of.ensures.name) (room_for (shows c.self.view_is c.self.invariant) c.args.space c.args.page c.requires.there c.args.overlay c.requires.room)

-- the tables with the other overlay
done : (c : After-put) → Shows (made c.self.inside c.args.space c.set_overlaid.new.self c.put.new.overlays) (with_overlay c.args.self.now c.args.space c.args.page c.args.overlay)
done c =
    over_made (shows c.self.view_is c.self.invariant) c.args.space c.in-Some.space.now c.set_overlaid.new.self c.in-Some.ensures.value c.args.page c.args.overlay c.put.new.overlays
    (low_is c.self.view_is c.self.invariant c.args.space c.args.page c.requires.there) c.requires.lined (room_for (shows c.self.view_is c.self.invariant) c.args.space c.args.page c.requires.there c.args.overlay c.requires.room)
    (c.put.ensures.entries ∙ ap (λ n. put_over c.self.inside.overlays.entries n c.args.overlay) c.of.ensures.name) c.put.ensures.room
    (subst (λ b. IsPut c.in-Some.space.now.overlaid c.args.page b c.set_overlaid.new.self.overlaid) c.is_some.ensures c.set_overlaid.ensures.overlaid) c.set_overlaid.ensures.table c.requires.there

pub invariant_of-self : goal.invariant_of-self
invariant_of-self c = (done c).own

pub returns-clause-overlay : goal.returns-clause-overlay
returns-clause-overlay c = (done c).is
