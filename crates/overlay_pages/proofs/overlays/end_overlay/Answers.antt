use Rattle.overlay_pages.proofs.Common.{◌≡◌, Some, None, ◌∙◌}
use Rattle.overlay_pages.proofs.Stores.{CanSettle}
use Rattle.overlay_pages.proofs.Books.{altered_page}
use Rattle.overlay_pages.proofs.Views.{IsJoinedWith, state_of, view_of, discarded}
use Rattle.overlay_pages.proofs.Overlaying.{overlays}
use Rattle.overlay_pages.proofs.Joining.{Has, dropped, dropped_page, frames_twice, page_with}
use Rattle.overlay_pages.proofs.Growing.{ended_bare, ended_there}
use Rattle.overlay_pages.proofs.Shifts.{few_beside}
use Rattle.overlay_pages.proofs.overlays.end_overlay.Goals as goal
use Rattle.overlay_pages.proofs.overlays.end_overlay.Goals.{After-replace_overlay}

page : (c : After-replace_overlay) → Has c.args.ledger.now c.args.space c.args.page (Some c.args.overlay.now)
page c = page_with c.args.ledger.now c.args.space c.args.page c.requires.there (Some c.args.overlay.now) c.requires.overlaid

-- the overlay ended
ended : (c : After-replace_overlay) → IsJoinedWith CanSettle (view_of c.end_segment.new.self c.replace_overlay.new.self)
    × (state_of (view_of c.end_segment.new.self c.replace_overlay.new.self) ≡ altered_page discarded (state_of (view_of c.args.store.now c.args.ledger.now)) c.args.space c.args.page)
ended c =
    let e = c.end_segment.ensures in
    let a = view_of c.args.store.now c.args.ledger.now in
    overlays a (view_of c.end_segment.new.self c.replace_overlay.new.self) c.args.space c.args.page (page c).x None c.requires.joined
    (dropped a c.end_segment.new.self c.replace_overlay.new.self c.args.space c.args.page (page c).x c.args.overlay.now c.requires.joined (page c).there (page c).is
    e.ends e.segments e.frames e.free e.units e.store e.settles c.replace_overlay.ensures) discarded
    (dropped_page a c.end_segment.new.self c.args.space c.args.page (page c).x (c.requires.joined.held c.args.space c.args.page (page c).x (page c).there) e.frames)

pub settle-requires : goal.settle-requires
settle-requires c = record { joined = (ended (goal.at.settle-requires c).After-replace_overlay).0 }

pub returns : goal.returns
returns c =
    let a = view_of c.args.store.now c.args.ledger.now in
    let v = view_of c.settle.new.store c.settle.new.ledger in
    let m = c.settle.ensures.moved in
    let same = m.state ∙ (ended (goal.at.returns c).After-replace_overlay).1 in
    let is = page (goal.at.returns c).After-replace_overlay in
    let few = c.settle.ensures.few in
    record {
      joined = m.joined;
      state = same;
      there = ended_there a v c.args.space c.args.page c.requires.there m.joined same;
      bare = ended_bare a v c.args.space c.args.page c.requires.there m.joined same;
      scratch = λ line low. m.scratch line low ∙ c.end_segment.ensures.scratch line low;
      frames = frames_twice c.args.store.now c.end_segment.new.self c.settle.new.store c.end_segment.ensures.frames m.frames;
      few = few_beside c.args.ledger.now c.replace_overlay.new.self c.settle.new.ledger c.args.space c.args.page is.x is.there c.replace_overlay.ensures few;
    }
