use Rattle.overlay_pages.proofs.Stores.{overlay_page}
use Rattle.overlay_pages.proofs.Views.{view_of}
use Rattle.overlay_pages.proofs.SharedPages.{overlaid, share_room}
use Rattle.overlay_pages.proofs.sharing.share_overlaid.Goals as goal
use Rattle.overlay_pages.proofs.Joining.{copied_by, overlay_set}

pub copy_segment-block-requires-clause-room : goal.copy_segment-block-requires-clause-room
copy_segment-block-requires-clause-room c =
    share_room (view_of c.args.store.now c.args.ledger.now) c.args.from c.args.page c.args.overlay c.requires.joined c.requires.there c.requires.overlaid c.requires.room

pub returns : goal.returns
returns c =
    let b = c.copy_segment-block.ensures in
    let all = overlaid (view_of c.args.store.now c.args.ledger.now) c.copy_segment-block.new.self c.args.from c.args.to c.args.page c.args.overlay c.copy_segment-block.result
    c.requires.joined c.requires.there c.requires.overlaid c.requires.frame c.requires.space c.share_found.ensures.absent b.begins.asked.0
    (copied_by c.args.store.now c.copy_segment-block.new.self c.of.result c.args.overlay.block.order (overlay_page c.args.to c.args.page) c.args.overlay.block c.copy_segment-block.result c.args.overlay.bits c.of.ensures.name
    (overlay_set c.args.store.now c.args.ledger.now c.args.from c.args.page c.args.overlay c.requires.joined c.requires.there c.requires.overlaid) b.begins b.copies)
    c.share_found.new.self c.share_found.ensures.shared in
    record { joined = all.0; state = all.1 }
