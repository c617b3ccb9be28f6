use Rattle.overlay_pages.proofs.Common.{◌≡◌, ◌^◌, ap, ◌∙◌}
use Rattle.overlay_pages.proofs.Books.{altered_page}
use Rattle.overlay_pages.proofs.Views.{discarded, IsJoined, state_of, view_of}
use Rattle.overlay_pages.proofs.Growing.{all_kept, ended_room, has_room}
use Rattle.overlay_pages.proofs.Joining.{frames_twice}
use Rattle.overlay_pages.proofs.overlays.take_up.Goals as goal
use Rattle.overlay_pages.proofs.overlays.take_up.Goals.{After-lift}

-- the lines in scratch change nothing
lifted : (c : After-lift) → IsJoined (view_of c.lift.new.self c.args.ledger.now) × (state_of (view_of c.lift.new.self c.args.ledger.now) ≡ state_of (view_of c.args.store.now c.args.ledger.now))
lifted c =
    let l = c.lift.ensures in all_kept c.args.store.now c.lift.new.self c.args.ledger.now c.requires.joined l.segments l.frames l.lifts.blocks l.lifts.segments l.store

pub end_overlay-requires-clause-joined : goal.end_overlay-requires-clause-joined
end_overlay-requires-clause-joined c = (lifted (goal.at.end_overlay-requires-clause-joined c).After-lift).0

pub returns : goal.returns
returns c =
    let a = view_of c.args.store.now c.args.ledger.now in
    let v = view_of c.end_overlay.new.store c.end_overlay.new.ledger in
    let d = c.end_overlay.ensures in
    let state = d.state ∙ ap (λ st. altered_page discarded st c.args.space c.args.page) (lifted (goal.at.returns c).After-lift).1 in
    record {
      joined = d.joined;
      state = state;
      there = d.there;
      bare = d.bare;
      frames = frames_twice c.args.store.now c.lift.new.self c.end_overlay.new.store c.lift.ensures.frames d.frames;
      lines = λ line low has. d.scratch line low ∙ c.lift.ensures.lifts.lifted line has;
      room = has_room v d.joined c.args.order c.requires.order (ended_room a v c.args.space c.args.page c.requires.there d.joined state (2 ^ c.args.order) c.requires.enough);
      few = d.few;
    }
