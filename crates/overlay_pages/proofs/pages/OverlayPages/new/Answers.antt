use Rattle.overlay_pages.proofs.Common.{sym, subst}
use Rattle.overlay_pages.proofs.Stores.{HasRoom}
use Rattle.overlay_pages.proofs.Placed.{frames_room, made_frame, made_joined, made_state}
use Rattle.overlay_pages.proofs.pages.OverlayPages.new.Goals as goal

pub take_frame-zero-requires : goal.take_frame-zero-requires
take_frame-zero-requires c = record { room = subst (λ blocks. HasRoom blocks 4) (sym c.in_ok-store.ensures.empty.blocks) (frames_room c.args.frames 0 c.requires.some) }

pub new-requires-2-clause-zero_frame : goal.new-requires-2-clause-zero_frame
new-requires-2-clause-zero_frame c =
    let t = c.take_frame-zero.ensures in made_frame c.in_ok-store.store c.take_frame-zero.new.self c.args.frames c.take_frame-zero.result c.in_ok-store.ensures.empty t.frame t.units t.store

pub invariant_of-result : goal.invariant_of-result
invariant_of-result c =
    let t = c.take_frame-zero.ensures in
    let l = c.in_ok-ledger.ensures in
    made_joined c.in_ok-store.store c.take_frame-zero.new.self c.in_ok-ledger.ledger c.args.frames c.take_frame-zero.result c.in_ok-store.ensures.empty t.frame t.lines t.same t.free t.units t.store l.spaces l.frames l.zero (t.settled c.in_ok-store.ensures.settled)

pub returns : goal.returns
returns c =
    let t = c.take_frame-zero.ensures in
    let l = c.in_ok-ledger.ensures in
    record { state = made_state c.in_ok-store.store c.take_frame-zero.new.self c.in_ok-ledger.ledger c.args.frames c.take_frame-zero.result c.in_ok-store.ensures.empty t.frame t.lines t.same t.free t.units t.store l.spaces l.frames l.zero }
