use Rattle.overlay_pages.proofs.Common.{◌≡◌, None, Some, sym, subst, ◌∙◌}
use Rattle.overlay_pages.proofs.Stores.{IsFrame}
use Rattle.overlay_pages.proofs.Books.{altered_page}
use Rattle.overlay_pages.proofs.Views.{IsJoined, MemoryView, committed, discarded, state_of, view_of}
use Rattle.overlay_pages.proofs.Joining.{Has, page_with}
use Rattle.overlay_pages.proofs.Committing.{bare_committed, committing, page_frame}
use Rattle.overlay_pages.proofs.settling.commit.Goals as goal
use Rattle.overlay_pages.proofs.settling.commit.Goals.{After-frame_of-frame, After-lay_in_frame}

pub returns-in_default-clause-state : goal.returns-in_default-clause-state
returns-in_default-clause-state c =
    bare_committed (view_of c.args.store.now c.args.ledger.now) c.args.space c.args.page
    (page_with c.args.ledger.now c.args.space c.args.page c.requires.there None (sym c.overlay.ensures.overlay ∙ c.in_default.is))

-- the page and its frame
page : (c : After-frame_of-frame) → Has c.args.ledger.now c.args.space c.args.page (Some c.in-Some.overlay)
page c = page_with c.args.ledger.now c.args.space c.args.page c.requires.there (Some c.in-Some.overlay) (sym c.overlay.ensures.overlay ∙ c.in-Some.is)

taken : (c : After-frame_of-frame) → IsFrame c.args.store.now c.frame_of-frame.result
taken c =
    let found = page c in
    subst (IsFrame c.args.store.now) (page_frame c.args.ledger.now c.args.space c.args.page found.x c.frame_of-frame.result found.there c.frame_of-frame.ensures) (c.requires.joined.held c.args.space c.args.page found.x found.there).frame

pub lay_in_frame-requires-clause-frame : goal.lay_in_frame-requires-clause-frame
lay_in_frame-requires-clause-frame c = taken (goal.at.lay_in_frame-requires-clause-frame c).After-frame_of-frame

filled : (c : After-lay_in_frame) → IsJoined (view_of c.lay_in_frame.new.self c.args.ledger.now)
    × ((m : MemoryView) → state_of m ≡ altered_page discarded (state_of (view_of c.lay_in_frame.new.self c.args.ledger.now)) c.args.space c.args.page
    → state_of m ≡ altered_page committed (state_of (view_of c.args.store.now c.args.ledger.now)) c.args.space c.args.page)
filled c =
    let f = c.lay_in_frame.ensures in
    let over = sym c.overlay.ensures.overlay ∙ c.in-Some.is in
    let found = page_with c.args.ledger.now c.args.space c.args.page c.requires.there (Some c.in-Some.overlay) over in
    committing (view_of c.args.store.now c.args.ledger.now) c.args.space c.args.page c.in-Some.overlay c.requires.joined c.requires.there over c.lay_in_frame.new.self c.frame_of-frame.result
    (page_frame c.args.ledger.now c.args.space c.args.page found.x c.frame_of-frame.result found.there c.frame_of-frame.ensures) c.requires.alone f.fills f.lines

pub end_overlay-requires-clause-joined : goal.end_overlay-requires-clause-joined
end_overlay-requires-clause-joined c = (filled (goal.at.end_overlay-requires-clause-joined c).After-lay_in_frame).0

pub returns-in-Some-clause-state : goal.returns-in-Some-clause-state
returns-in-Some-clause-state c =
    (filled (goal.at.returns-in-Some-clause-state c).After-lay_in_frame).1 (view_of c.end_overlay.new.store c.end_overlay.new.ledger) c.end_overlay.ensures.state
