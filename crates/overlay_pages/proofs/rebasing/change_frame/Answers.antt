use Rattle.overlay_pages.proofs.Views.{view_of}
use Rattle.overlay_pages.proofs.Leaving.{gives_frame}
use Rattle.overlay_pages.proofs.Rebased.{change_bare, change_free, change_inside, change_some, change_state, change_taken, change_there, change_units}
use Rattle.overlay_pages.proofs.Committing.{entry_some, frame_some}
use Rattle.overlay_pages.proofs.rebasing.change_frame.Goals as goal

pub replace_frame-requires-clause-inside : goal.replace_frame-requires-clause-inside
replace_frame-requires-clause-inside c =
    change_inside (view_of c.args.store.now c.args.ledger.now) c.args.space c.args.page c.args.theirs.now.space c.args.theirs.now.page c.args.theirs.now.frame c.requires.joined (entry_some c.args.ledger.now c.args.space c.args.page c.args.entry c.requires.there) c.requires.bare
    c.requires.alone (frame_some c.args.ledger.now c.args.theirs.now.space c.args.theirs.now.page c.args.theirs.now.frame c.requires.frame) c.requires.away c.requires.frame

pub replace_frame-requires-clause-free : goal.replace_frame-requires-clause-free
replace_frame-requires-clause-free c =
    change_free (view_of c.args.store.now c.args.ledger.now) c.args.space c.args.page c.args.theirs.now.space c.args.theirs.now.page c.args.theirs.now.frame c.requires.joined (entry_some c.args.ledger.now c.args.space c.args.page c.args.entry c.requires.there) c.requires.bare
    c.requires.alone (frame_some c.args.ledger.now c.args.theirs.now.space c.args.theirs.now.page c.args.theirs.now.frame c.requires.frame) c.requires.away c.requires.frame

pub give_frame-requires : goal.give_frame-requires
give_frame-requires c =
    change_taken (view_of c.args.store.now c.args.ledger.now) c.args.space c.args.page c.args.theirs.now.space c.args.theirs.now.page c.args.theirs.now.frame c.requires.joined (entry_some c.args.ledger.now c.args.space c.args.page c.args.entry c.requires.there) c.requires.bare
    c.requires.alone (frame_some c.args.ledger.now c.args.theirs.now.space c.args.theirs.now.page c.args.theirs.now.frame c.requires.frame) c.requires.away c.requires.frame
    c.replace_frame.new.self c.replace_frame.ensures.framed c.replace_frame.result c.replace_frame.ensures.freed c.in-Some.own c.in-Some.is

pub unreachable-requires : goal.unreachable-requires
unreachable-requires c =
    change_some (view_of c.args.store.now c.args.ledger.now) c.args.space c.args.page c.args.theirs.now.space c.args.theirs.now.page c.args.theirs.now.frame c.requires.joined (entry_some c.args.ledger.now c.args.space c.args.page c.args.entry c.requires.there) c.requires.bare
    c.requires.alone (frame_some c.args.ledger.now c.args.theirs.now.space c.args.theirs.now.page c.args.theirs.now.frame c.requires.frame) c.requires.away c.requires.frame
    c.replace_frame.new.self c.replace_frame.ensures.framed c.replace_frame.result c.replace_frame.ensures.freed c.in-None.is

pub returns-clause-joined : goal.returns-clause-joined
returns-clause-joined c =
    let g = c.give_frame.ensures in
    (change_state (view_of c.args.store.now c.args.ledger.now) c.args.space c.args.page c.args.theirs.now.space c.args.theirs.now.page c.args.theirs.now.frame c.requires.joined (entry_some c.args.ledger.now c.args.space c.args.page c.args.entry c.requires.there) c.requires.bare
    c.requires.alone (frame_some c.args.ledger.now c.args.theirs.now.space c.args.theirs.now.page c.args.theirs.now.frame c.requires.frame) c.requires.away c.requires.frame
    c.replace_frame.new.self c.replace_frame.ensures.framed c.replace_frame.result c.replace_frame.ensures.freed c.in-Some.own c.in-Some.is c.give_frame.new.self
    (gives_frame c.args.store.now c.give_frame.new.self c.in-Some.own g.same g.segments g.frames g.settled g.free g.units g.store)).0

pub returns-clause-state : goal.returns-clause-state
returns-clause-state c =
    let g = c.give_frame.ensures in
    (change_state (view_of c.args.store.now c.args.ledger.now) c.args.space c.args.page c.args.theirs.now.space c.args.theirs.now.page c.args.theirs.now.frame c.requires.joined (entry_some c.args.ledger.now c.args.space c.args.page c.args.entry c.requires.there) c.requires.bare
    c.requires.alone (frame_some c.args.ledger.now c.args.theirs.now.space c.args.theirs.now.page c.args.theirs.now.frame c.requires.frame) c.requires.away c.requires.frame
    c.replace_frame.new.self c.replace_frame.ensures.framed c.replace_frame.result c.replace_frame.ensures.freed c.in-Some.own c.in-Some.is c.give_frame.new.self
    (gives_frame c.args.store.now c.give_frame.new.self c.in-Some.own g.same g.segments g.frames g.settled g.free g.units g.store)).1

pub returns-clause-there : goal.returns-clause-there
returns-clause-there c =
    change_there (view_of c.args.store.now c.args.ledger.now) c.args.space c.args.page c.args.theirs.now.space c.args.theirs.now.page c.args.theirs.now.frame c.requires.joined (entry_some c.args.ledger.now c.args.space c.args.page c.args.entry c.requires.there) c.requires.bare
    c.requires.alone (frame_some c.args.ledger.now c.args.theirs.now.space c.args.theirs.now.page c.args.theirs.now.frame c.requires.frame) c.requires.away c.requires.frame
    c.replace_frame.new.self c.replace_frame.ensures.framed

pub returns-clause-bare : goal.returns-clause-bare
returns-clause-bare c =
    change_bare (view_of c.args.store.now c.args.ledger.now) c.args.space c.args.page c.args.theirs.now.space c.args.theirs.now.page c.args.theirs.now.frame c.requires.joined (entry_some c.args.ledger.now c.args.space c.args.page c.args.entry c.requires.there) c.requires.bare
    c.requires.alone (frame_some c.args.ledger.now c.args.theirs.now.space c.args.theirs.now.page c.args.theirs.now.frame c.requires.frame) c.requires.away c.requires.frame
    c.replace_frame.new.self c.replace_frame.ensures.framed

pub returns-clause-units : goal.returns-clause-units
returns-clause-units c =
    let g = c.give_frame.ensures in
    change_units (view_of c.args.store.now c.args.ledger.now) c.args.space c.args.page c.args.theirs.now.space c.args.theirs.now.page c.args.theirs.now.frame c.requires.joined (entry_some c.args.ledger.now c.args.space c.args.page c.args.entry c.requires.there) c.requires.bare
    c.requires.alone (frame_some c.args.ledger.now c.args.theirs.now.space c.args.theirs.now.page c.args.theirs.now.frame c.requires.frame) c.requires.away c.requires.frame
    c.replace_frame.new.self c.replace_frame.ensures.framed c.replace_frame.result c.replace_frame.ensures.freed c.in-Some.own c.in-Some.is c.give_frame.new.self
    (gives_frame c.args.store.now c.give_frame.new.self c.in-Some.own g.same g.segments g.frames g.settled g.free g.units g.store)
