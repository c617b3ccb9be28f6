use Rattle.overlay_pages.proofs.Common.{◌^◌, [], Some, None, refl, ap, ◌∙◌}
use Rattle.overlay_pages.proofs.Stores.{overlay_page, filled_there}
use Rattle.overlay_pages.proofs.Books.{with_overlay}
use Rattle.overlay_pages.proofs.Views.{view_of}
use Rattle.overlay_pages.proofs.Joining.{begun, begun_places, page_with, laid_by}
use Rattle.overlay_pages.proofs.overlays.begin_overlay.Goals as goal

pub insert-requires-clause-there : goal.insert-requires-clause-there
insert-requires-clause-there c =
    let b = c.begin_segment-block.ensures in
    filled_there c.begin_segment-block.new.self c.lay.new.self c.begin_segment-block.result c.args.bits b.begins.store
    (record { segment = record { owner = c.of.result; order = c.begin_segment-block.result.order; bits = [] }; there = b.begins.there; order = refl }) c.lay.ensures.lines

pub returns : goal.returns
returns c =
    let f = page_with c.args.ledger.now c.args.space c.args.page c.requires.there None c.requires.bare in
    let b = c.begin_segment-block.ensures in
    let l = c.lay.ensures in
    let i = c.insert.ensures in
    let table = c.replace_overlay.ensures ∙ ap (λ bits. with_overlay c.args.ledger.now c.args.space c.args.page (Some (record { bits = bits; block = c.begin_segment-block.result }))) c.with-bits.ensures.lines in
    let size = ap (λ k. 2 ^ k) b.begins.asked.0 ∙ c.requires.size in
    let lays = laid_by c.args.store.now c.begin_segment-block.new.self c.lay.new.self c.of.result c.args.order (overlay_page c.args.space c.args.page) c.begin_segment-block.result c.args.bits c.of.ensures.name
    b.begins l.lays l.lines l.segments l.frames l.store in
    let all = begun (view_of c.args.store.now c.args.ledger.now) c.lay.new.self c.insert.new.self c.replace_overlay.new.self c.args.space c.args.page f.x c.begin_segment-block.result c.args.bits c.args.line c.args.bytes.now
    c.requires.joined f.there f.is c.with-bits.ensures.before c.requires.line c.requires.absent size lays i.inserts i.lines i.segments i.frames i.store table in
    let places = begun_places (view_of c.args.store.now c.args.ledger.now) c.lay.new.self c.insert.new.self c.replace_overlay.new.self c.args.space c.args.page f.x c.begin_segment-block.result c.args.bits c.args.line c.args.bytes.now
    c.requires.joined f.there f.is c.with-bits.ensures.before c.requires.line c.requires.absent size lays i.inserts i.lines i.segments i.frames i.store table in
    record { joined = all.0; state = all.1; table = table; places = places }
