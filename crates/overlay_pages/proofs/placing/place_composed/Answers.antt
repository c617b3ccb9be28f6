use Rattle.overlay_pages.proofs.Common.{None, cond, refl, ap₂, ◌∙◌}
use Rattle.overlay_pages.proofs.Stores.{composed_line, has_line}
use Rattle.overlay_pages.proofs.Views.{page_lines, view_of}
use Rattle.overlay_pages.proofs.Joining.{Has, page_with}
use Rattle.overlay_pages.proofs.NewFrames.{TakesFrame, is_placed, now_framed, others_framed, takes_frame}
use Rattle.overlay_pages.proofs.Committing.{entry_some}
use Rattle.overlay_pages.proofs.Copying.{entry_inside, entry_taken}
use Rattle.overlay_pages.proofs.placing.place_composed.Goals as goal
use Rattle.overlay_pages.proofs.placing.place_composed.Goals.{After-compose_frame}

pub compose_frame-requires-clause-from : goal.compose_frame-requires-clause-from
compose_frame-requires-clause-from c =
    entry_inside (view_of c.args.store.now c.args.ledger.now) c.take_frame-frame.new.self c.args.space c.args.page c.args.entry c.requires.joined c.requires.there c.take_frame-frame.ensures.units

-- the page, and its frame
page : (c : After-compose_frame) → Has c.args.ledger.now c.args.space c.args.page None
page c = page_with c.args.ledger.now c.args.space c.args.page (entry_some c.args.ledger.now c.args.space c.args.page c.args.entry c.requires.there) None c.requires.bare

took : (c : After-compose_frame) → TakesFrame c.args.store.now c.take_frame-frame.new.self c.compose_frame.new.self c.take_frame-frame.result (composed_line c.args.store.now c.args.entry.frame c.args.bits)
took c =
    let t = c.take_frame-frame.ensures in
    let taken = entry_taken (view_of c.args.store.now c.args.ledger.now) c.args.space c.args.page c.args.entry c.requires.joined c.requires.there in
    takes_frame (composed_line c.args.store.now c.args.entry.frame c.args.bits) t.frame t.fresh t.same t.segments t.frames t.settled t.free t.units t.store c.compose_frame.ensures.fills
    (λ i low. c.compose_frame.ensures.lines i low ∙ ap₂ (cond (has_line c.args.bits i)) (t.scratch i low) ((t.frames c.args.entry.frame taken).lines i low))

pub returns : goal.returns
returns c =
    let at = (goal.at.returns c).After-compose_frame in
    let has = page at in
    let all = is_placed (view_of c.args.store.now c.args.ledger.now) c.take_frame-frame.new.self c.compose_frame.new.self c.replace_frame.new.self c.args.space c.args.page has.x
    c.take_frame-frame.result (composed_line c.args.store.now c.args.entry.frame c.args.bits)
    c.requires.joined has.there c.requires.shared (took at) c.replace_frame.ensures.framed has.is (page_lines (composed_line c.args.store.now c.args.entry.frame c.args.bits)) refl in
    record {
      joined = all.0;
      placed = all.1;
      frame = now_framed (view_of c.args.store.now c.args.ledger.now) c.take_frame-frame.new.self c.compose_frame.new.self c.replace_frame.new.self c.args.space c.args.page has.x
          c.take_frame-frame.result (composed_line c.args.store.now c.args.entry.frame c.args.bits)
          c.requires.joined has.there c.requires.shared (took at) c.replace_frame.ensures.framed;
      others = others_framed c.args.ledger.now c.replace_frame.new.self c.args.space c.args.page c.take_frame-frame.result has.x has.there c.replace_frame.ensures.framed;
    }
