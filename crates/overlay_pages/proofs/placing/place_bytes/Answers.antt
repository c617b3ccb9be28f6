use Rattle.overlay_pages.proofs.Common.{None, refl, drop, take, ◌*◌, LINE_BYTES}
use Rattle.overlay_pages.proofs.Views.{lines_of_bytes, view_of}
use Rattle.overlay_pages.proofs.Joining.{page_with}
use Rattle.overlay_pages.proofs.NewFrames.{is_placed, takes_frame}
use Rattle.overlay_pages.proofs.placing.place_bytes.Goals as goal

pub returns : goal.returns
unfolding lines_of_bytes
returns c =
    let f = page_with c.args.ledger.now c.args.space c.args.page c.requires.there None c.requires.bare in
    let t = c.take_frame-frame.ensures in
    let all = is_placed (view_of c.args.store.now c.args.ledger.now) c.take_frame-frame.new.self c.fill_bytes.new.store c.set_frame.new.self c.args.space c.args.page f.x c.take_frame-frame.result (λ i. take LINE_BYTES (drop (LINE_BYTES * i) c.args.bytes.now))
    c.requires.joined f.there c.requires.shared
    (takes_frame (λ i. take LINE_BYTES (drop (LINE_BYTES * i) c.args.bytes.now)) t.frame t.fresh t.same t.segments t.frames t.settled t.free t.units t.store c.fill_bytes.ensures.fills c.fill_bytes.ensures.lines)
    c.set_frame.ensures.framed f.is (lines_of_bytes c.args.bytes.now) refl in
    record { joined = all.0; placed = all.1 }
