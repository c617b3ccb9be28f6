use Rattle.overlay_pages.proofs.Common.{Some, ap, ◌∙◌}
use Rattle.overlay_pages.proofs.Stores.{Entry, with_line}
use Rattle.overlay_pages.proofs.Books.{with_overlay}
use Rattle.overlay_pages.proofs.Views.{joins, view_of}
use Rattle.overlay_pages.proofs.Overlaying.{overlays, overlays_places}
use Rattle.overlay_pages.proofs.Joining.{inserted, inserted_fills, joined_page, page_with}
use Rattle.overlay_pages.proofs.overlays.insert_line.Goals as goal

pub returns : goal.returns
returns c =
    let a = view_of c.args.store.now c.args.ledger.now in
    let f = page_with c.args.ledger.now c.args.space c.args.page c.requires.there (Some c.args.entry) c.requires.overlaid in
    let held = c.requires.joined.held c.args.space c.args.page f.x f.there in
    let e = c.insert.ensures in
    let table = c.replace_overlay.ensures ∙ ap (λ bits. with_overlay c.args.ledger.now c.args.space c.args.page (Some (record { bits = bits; block = c.args.entry.block }))) c.with-bits.ensures.lines in
    let overlay : Entry = record { bits = with_line c.args.entry.bits c.args.line; block = c.args.entry.block } in
    let so = inserted a c.insert.new.self c.replace_overlay.new.self c.args.space c.args.page f.x c.args.entry c.args.line c.requires.joined f.there f.is c.requires.line c.requires.absent c.requires.fits e.lines e.segments e.frames e.store
    table in
    let all = overlays a (view_of c.insert.new.self c.replace_overlay.new.self) c.args.space c.args.page f.x (Some overlay) c.requires.joined so
    (joins c.args.line c.args.bytes.now)
    (joined_page c.args.store.now c.insert.new.self c.args.entry c.args.line c.args.bytes.now f.x f.is c.requires.line
    (inserted_fills c.args.store.now c.insert.new.self c.args.space c.args.page f.x c.args.entry c.args.line c.args.bytes.now held f.is e.inserts) (e.frames f.x.entry.frame held.frame)) in
    record { joined = all.0; state = all.1; table = table; places = overlays_places a (view_of c.insert.new.self c.replace_overlay.new.self) c.args.space c.args.page f.x (Some overlay) c.requires.joined so }
