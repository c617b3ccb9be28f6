use Rattle.overlay_pages.proofs.Common.{Some}
use Rattle.overlay_pages.proofs.Views.{view_of}
use Rattle.overlay_pages.proofs.Joining.{page_with}
use Rattle.overlay_pages.proofs.Committing.{composed_lines_are, copied_at, copy_enough, copy_settled, copy_shared, entry_some}
use Rattle.overlay_pages.proofs.Copying.{frame_known}
use Rattle.overlay_pages.proofs.Rebased.{after_entry}
use Rattle.overlay_pages.proofs.settling.copy_commit.Goals as goal

pub take_up-requires-clause-there : goal.take_up-requires-clause-there
take_up-requires-clause-there c = entry_some c.args.ledger.now c.args.space c.args.page c.args.entry c.requires.there

pub take_up-requires-clause-enough : goal.take_up-requires-clause-enough
take_up-requires-clause-enough c =
    copy_enough (view_of c.args.store.now c.args.ledger.now) c.args.space c.args.page c.args.overlay c.requires.joined
    (entry_some c.args.ledger.now c.args.space c.args.page c.args.entry c.requires.there) c.requires.overlaid c.requires.room

pub place_composed-requires-clause-there : goal.place_composed-requires-clause-there
place_composed-requires-clause-there c =
    after_entry (view_of c.args.store.now c.args.ledger.now) (view_of c.take_up.new.store c.take_up.new.ledger) c.args.space c.args.page
    (entry_some c.args.ledger.now c.args.space c.args.page c.args.entry c.requires.there) c.take_up.ensures.joined c.take_up.ensures.state c.args.entry c.requires.there

pub place_composed-requires-clause-shared : goal.place_composed-requires-clause-shared
place_composed-requires-clause-shared c =
    copy_shared (view_of c.args.store.now c.args.ledger.now) c.args.space c.args.page c.args.overlay c.requires.joined
    (entry_some c.args.ledger.now c.args.space c.args.page c.args.entry c.requires.there) c.requires.overlaid
    (view_of c.take_up.new.store c.take_up.new.ledger) c.take_up.ensures.state c.requires.shared

pub place_composed-requires-clause-none_awaits : goal.place_composed-requires-clause-none_awaits
place_composed-requires-clause-none_awaits c =
    copy_settled (view_of c.args.store.now c.args.ledger.now) c.args.space c.args.page c.args.overlay c.requires.joined
    (entry_some c.args.ledger.now c.args.space c.args.page c.args.entry c.requires.there) c.requires.overlaid
    (view_of c.take_up.new.store c.take_up.new.ledger) c.take_up.ensures.state c.requires.none_awaits

pub returns-clause-placed : goal.returns-clause-placed
returns-clause-placed c =
    let there = entry_some c.args.ledger.now c.args.space c.args.page c.args.entry c.requires.there in
    let has = page_with c.args.ledger.now c.args.space c.args.page there (Some c.args.overlay) c.requires.overlaid in
    copied_at (view_of c.args.store.now c.args.ledger.now) c.args.space c.args.page c.args.overlay c.requires.joined there c.requires.overlaid
    (view_of c.take_up.new.store c.take_up.new.ledger) (view_of c.place_composed.new.store c.place_composed.new.ledger) _ c.take_up.ensures.state
    (composed_lines_are (view_of c.args.store.now c.args.ledger.now) c.args.space c.args.page c.args.overlay c.requires.joined there c.requires.overlaid
    (view_of c.take_up.new.store c.take_up.new.ledger) c.args.entry.frame c.take_up.ensures.lines c.take_up.ensures.frames
    (frame_known c.args.ledger.now c.args.space c.args.page has.x c.args.entry has.there c.requires.there))
    c.place_composed.ensures.placed
