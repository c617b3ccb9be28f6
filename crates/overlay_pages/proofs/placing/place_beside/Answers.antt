use Rattle.overlay_pages.proofs.Common.{◌∙◌, ap}
use Rattle.overlay_pages.proofs.Stores.{composed_line, frame_line}
use Rattle.overlay_pages.proofs.Views.{state_of, view_of}
use Rattle.overlay_pages.proofs.Copying.{beside_framed, beside_joined, beside_others, beside_overlaid, beside_placed, beside_there, entry_inside, entry_taken, lay_bits, lay_there}
use Rattle.overlay_pages.proofs.NewFrames.{TakesFrame, takes_frame}
use Rattle.overlay_pages.proofs.Rebased.{after_framed}
use Rattle.overlay_pages.proofs.Shifts.{few_after}
use Rattle.overlay_pages.proofs.placing.place_beside.Goals as goal
use Rattle.overlay_pages.proofs.placing.place_beside.Goals.{After-compose_frame}

pub compose_frame-requires-clause-from : goal.compose_frame-requires-clause-from
compose_frame-requires-clause-from c =
    entry_inside (view_of c.args.store.now c.args.ledger.now) c.take_frame-frame.new.self c.args.space c.args.page c.args.entry c.requires.joined c.requires.there c.take_frame-frame.ensures.units

-- the frame with the lines of the page's own
took : (c : After-compose_frame) → TakesFrame c.args.store.now c.take_frame-frame.new.self c.compose_frame.new.self c.take_frame-frame.result (frame_line c.args.store.now c.args.entry.frame)
took c =
    let t = c.take_frame-frame.ensures in
    let taken = entry_taken (view_of c.args.store.now c.args.ledger.now) c.args.space c.args.page c.args.entry c.requires.joined c.requires.there in
    takes_frame (frame_line c.args.store.now c.args.entry.frame) t.frame t.fresh t.same t.segments t.frames t.settled t.free t.units t.store c.compose_frame.ensures.fills
    (λ i low.
    c.compose_frame.ensures.lines i low ∙ ap (λ l. composed_line c.take_frame-frame.new.self c.args.entry.frame l i) c.empty.ensures
    ∙ (t.frames c.args.entry.frame taken).lines i low)

pub lay_in_frame-requires-clause-there : goal.lay_in_frame-requires-clause-there
lay_in_frame-requires-clause-there c =
    lay_there (view_of c.args.store.now c.args.ledger.now) c.args.space c.args.page c.args.overlay c.args.entry c.requires.joined c.requires.there c.requires.overlaid
    c.take_frame-frame.new.self c.compose_frame.new.self c.take_frame-frame.result (took (goal.at.lay_in_frame-requires-clause-there c).After-compose_frame)

pub lay_in_frame-requires-clause-bits : goal.lay_in_frame-requires-clause-bits
lay_in_frame-requires-clause-bits c =
    lay_bits (view_of c.args.store.now c.args.ledger.now) c.args.space c.args.page c.args.overlay c.args.entry c.requires.joined c.requires.there c.requires.overlaid
    c.take_frame-frame.new.self c.compose_frame.new.self c.take_frame-frame.result (took (goal.at.lay_in_frame-requires-clause-bits c).After-compose_frame)

pub end_overlay-requires-clause-joined : goal.end_overlay-requires-clause-joined
end_overlay-requires-clause-joined c =
    beside_joined (view_of c.args.store.now c.args.ledger.now) c.args.space c.args.page c.args.overlay c.args.entry c.requires.joined c.requires.there c.requires.overlaid
    c.take_frame-frame.new.self c.compose_frame.new.self c.take_frame-frame.result (took (goal.at.end_overlay-requires-clause-joined c).After-compose_frame)
    c.lay_in_frame.new.self c.lay_in_frame.ensures.fills c.lay_in_frame.ensures.lines c.requires.shared c.replace_frame.new.self c.replace_frame.ensures.framed

pub end_overlay-requires-clause-there : goal.end_overlay-requires-clause-there
end_overlay-requires-clause-there c =
    beside_there (view_of c.args.store.now c.args.ledger.now) c.args.space c.args.page c.args.overlay c.args.entry c.requires.joined c.requires.there c.requires.overlaid
    c.take_frame-frame.new.self c.compose_frame.new.self c.take_frame-frame.result (took (goal.at.end_overlay-requires-clause-there c).After-compose_frame)
    c.lay_in_frame.new.self c.lay_in_frame.ensures.fills c.lay_in_frame.ensures.lines c.requires.shared c.replace_frame.new.self c.replace_frame.ensures.framed

pub end_overlay-requires-clause-overlaid : goal.end_overlay-requires-clause-overlaid
end_overlay-requires-clause-overlaid c =
    beside_overlaid (view_of c.args.store.now c.args.ledger.now) c.args.space c.args.page c.args.overlay c.args.entry c.requires.joined c.requires.there c.requires.overlaid
    c.take_frame-frame.new.self c.compose_frame.new.self c.take_frame-frame.result (took (goal.at.end_overlay-requires-clause-overlaid c).After-compose_frame)
    c.lay_in_frame.new.self c.lay_in_frame.ensures.fills c.lay_in_frame.ensures.lines c.requires.shared c.replace_frame.new.self c.replace_frame.ensures.framed

pub returns-clause-placed : goal.returns-clause-placed
returns-clause-placed c =
    beside_placed (view_of c.args.store.now c.args.ledger.now) c.args.space c.args.page c.args.overlay c.args.entry c.requires.joined c.requires.there c.requires.overlaid
    c.take_frame-frame.new.self c.compose_frame.new.self c.take_frame-frame.result (took (goal.at.returns-clause-placed c).After-compose_frame)
    c.lay_in_frame.new.self c.lay_in_frame.ensures.fills c.lay_in_frame.ensures.lines c.requires.shared c.replace_frame.new.self c.replace_frame.ensures.framed
    (state_of (view_of c.end_overlay.new.store c.end_overlay.new.ledger)) c.end_overlay.ensures.state

pub returns-clause-frame : goal.returns-clause-frame
returns-clause-frame c =
    after_framed (view_of c.lay_in_frame.new.self c.replace_frame.new.self) (view_of c.end_overlay.new.store c.end_overlay.new.ledger) c.args.space c.args.page
    (beside_there (view_of c.args.store.now c.args.ledger.now) c.args.space c.args.page c.args.overlay c.args.entry c.requires.joined c.requires.there c.requires.overlaid
    c.take_frame-frame.new.self c.compose_frame.new.self c.take_frame-frame.result (took (goal.at.returns-clause-frame c).After-compose_frame)
    c.lay_in_frame.new.self c.lay_in_frame.ensures.fills c.lay_in_frame.ensures.lines c.requires.shared c.replace_frame.new.self c.replace_frame.ensures.framed)
    c.end_overlay.ensures.joined c.end_overlay.ensures.state c.args.space c.args.page c.take_frame-frame.result
    (beside_framed (view_of c.args.store.now c.args.ledger.now) c.args.space c.args.page c.args.overlay c.args.entry c.requires.joined c.requires.there c.requires.overlaid
    c.take_frame-frame.new.self c.compose_frame.new.self c.take_frame-frame.result (took (goal.at.returns-clause-frame c).After-compose_frame)
    c.lay_in_frame.new.self c.lay_in_frame.ensures.fills c.lay_in_frame.ensures.lines c.requires.shared c.replace_frame.new.self c.replace_frame.ensures.framed)

pub returns-clause-few : goal.returns-clause-few
returns-clause-few c =
    few_after c.args.ledger.now c.replace_frame.new.self c.end_overlay.new.ledger c.args.space c.args.page
    (beside_others (view_of c.args.store.now c.args.ledger.now) c.args.space c.args.page c.args.overlay c.args.entry c.requires.joined c.requires.there c.requires.overlaid
    c.take_frame-frame.new.self c.compose_frame.new.self c.take_frame-frame.result (took (goal.at.returns-clause-few c).After-compose_frame)
    c.lay_in_frame.new.self c.lay_in_frame.ensures.fills c.lay_in_frame.ensures.lines c.requires.shared c.replace_frame.new.self c.replace_frame.ensures.framed)
    c.end_overlay.ensures.few
