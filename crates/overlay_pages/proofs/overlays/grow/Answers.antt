use Rattle.overlay_pages.proofs.Common.{arith}
use Rattle.overlay_pages.proofs.Views.{state_of, view_of}
use Rattle.overlay_pages.proofs.Growing.{grown_state, grows_low}
use Rattle.overlay_pages.proofs.overlays.grow.Goals as goal

pub returns-clause-state : goal.returns-clause-state
returns-clause-state c =
    grown_state (view_of c.args.store.now c.args.ledger.now) c.args.space c.args.page c.args.entry c.args.line c.args.bytes.now c.requires.joined c.requires.there c.requires.overlaid c.requires.line c.requires.absent c.requires.full c.requires.fits
    (view_of c.take_up.new.store c.take_up.new.ledger) c.take_up.ensures.lines c.take_up.ensures.frames c.take_up.ensures.state
    (state_of (view_of c.begin_overlay.new.store c.begin_overlay.new.ledger)) c.begin_overlay.ensures.state

pub take_up-requires-clause-order : goal.take_up-requires-clause-order
take_up-requires-clause-order c = omega (arith, grows_low (view_of c.args.store.now c.args.ledger.now) c.args.space c.args.page c.args.entry c.args.line c.args.bytes.now c.requires.joined c.requires.there c.requires.overlaid c.requires.line c.requires.absent c.requires.full c.requires.fits)
