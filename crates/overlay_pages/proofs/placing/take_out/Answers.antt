use Rattle.overlay_pages.proofs.Common.{None}
use Rattle.overlay_pages.proofs.Views.{view_of}
use Rattle.overlay_pages.proofs.Joining.{page_with}
use Rattle.overlay_pages.proofs.Leaving.{freed_there, gives_frame, went_none, went_some}
use Rattle.overlay_pages.proofs.placing.take_out.Goals as goal

pub give_frame-requires : goal.give_frame-requires
give_frame-requires c =
    let has = page_with c.args.ledger.now c.args.space c.args.page c.requires.there None c.requires.bare in
    freed_there (view_of c.args.store.now c.args.ledger.now) c.remove_page.new.self c.args.space c.args.page c.remove_page.result
    c.requires.joined has c.remove_page.ensures.gone c.remove_page.ensures.freed c.in-Some.frame c.in-Some.is

pub returns-in-Some : goal.returns-in-Some
returns-in-Some c =
    let has = page_with c.args.ledger.now c.args.space c.args.page c.requires.there None c.requires.bare in
    let g = c.give_frame.ensures in
    let went = went_some (view_of c.args.store.now c.args.ledger.now) c.remove_page.new.self c.args.space c.args.page c.remove_page.result
    c.requires.joined has c.remove_page.ensures.gone c.remove_page.ensures.freed c.give_frame.new.self c.in-Some.frame c.in-Some.is
    (gives_frame c.args.store.now c.give_frame.new.self c.in-Some.frame g.same g.segments g.frames g.settled g.free g.units g.store) in
    record { joined = went.0; state = went.1 }

pub returns-in-None : goal.returns-in-None
returns-in-None c =
    let has = page_with c.args.ledger.now c.args.space c.args.page c.requires.there None c.requires.bare in
    let went = went_none (view_of c.args.store.now c.args.ledger.now) c.remove_page.new.self c.args.space c.args.page c.remove_page.result
    c.requires.joined has c.remove_page.ensures.gone c.remove_page.ensures.freed c.in-None.is in
    record { joined = went.0; state = went.1 }
