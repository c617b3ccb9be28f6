use Rattle.overlay_pages.proofs.Views.{state_of, view_of}
use Rattle.overlay_pages.proofs.FoundLines.{found_frame, found_there}
use Rattle.overlay_pages.proofs.Rebased.{after_alone, after_awaits, after_away, after_entry, after_framed, rebase_fits, rebase_state}
use Rattle.overlay_pages.proofs.rebasing.rebase.Goals as goal

pub drop_overlay-requires-clause-overlay : goal.drop_overlay-requires-clause-overlay
drop_overlay-requires-clause-overlay c = c.overlay.ensures (view_of c.args.store.now c.args.ledger.now) c.requires.joined c.requires.found

pub change_frame-requires-clause-there : goal.change_frame-requires-clause-there
change_frame-requires-clause-there c =
    after_entry (view_of c.args.store.now c.args.ledger.now) (view_of c.drop_overlay.new.store c.drop_overlay.new.ledger) c.args.page.now.space c.args.page.now.page
    (found_there c.args.ledger.now c.args.page.now c.requires.found) c.drop_overlay.ensures.joined c.drop_overlay.ensures.state
    c.entry.result (c.entry.ensures (view_of c.args.store.now c.args.ledger.now) c.requires.found)

pub change_frame-requires-clause-alone : goal.change_frame-requires-clause-alone
change_frame-requires-clause-alone c =
    after_alone (view_of c.args.store.now c.args.ledger.now) (view_of c.drop_overlay.new.store c.drop_overlay.new.ledger) c.args.page.now.space c.args.page.now.page
    (found_there c.args.ledger.now c.args.page.now c.requires.found) c.drop_overlay.ensures.joined c.drop_overlay.ensures.state c.requires.alone

pub change_frame-requires-clause-none_awaits : goal.change_frame-requires-clause-none_awaits
change_frame-requires-clause-none_awaits c =
    after_awaits (view_of c.args.store.now c.args.ledger.now) (view_of c.drop_overlay.new.store c.drop_overlay.new.ledger) c.args.page.now.space c.args.page.now.page
    (found_there c.args.ledger.now c.args.page.now c.requires.found) c.drop_overlay.ensures.joined c.drop_overlay.ensures.state c.requires.none_awaits

pub change_frame-requires-clause-frame : goal.change_frame-requires-clause-frame
change_frame-requires-clause-frame c =
    after_framed (view_of c.args.store.now c.args.ledger.now) (view_of c.drop_overlay.new.store c.drop_overlay.new.ledger) c.args.page.now.space c.args.page.now.page
    (found_there c.args.ledger.now c.args.page.now c.requires.found) c.drop_overlay.ensures.joined c.drop_overlay.ensures.state
    c.args.theirs.now.space c.args.theirs.now.page c.args.theirs.now.frame (found_frame c.args.ledger.now c.args.theirs.now c.requires.theirs)

pub change_frame-requires-clause-away : goal.change_frame-requires-clause-away
change_frame-requires-clause-away c =
    after_away (view_of c.args.store.now c.args.ledger.now) (view_of c.drop_overlay.new.store c.drop_overlay.new.ledger) c.args.page.now.space c.args.page.now.page
    (found_there c.args.ledger.now c.args.page.now c.requires.found) c.drop_overlay.ensures.joined c.drop_overlay.ensures.state
    c.args.theirs.now.space c.args.theirs.now.page c.requires.away

pub give_lines-requires-clause-fits : goal.give_lines-requires-clause-fits
give_lines-requires-clause-fits c =
    rebase_fits (view_of c.args.store.now c.args.ledger.now) (view_of c.drop_overlay.new.store c.drop_overlay.new.ledger) c.args.page.now.space c.args.page.now.page
    (found_there c.args.ledger.now c.args.page.now c.requires.found) c.drop_overlay.ensures.joined c.drop_overlay.ensures.state
    c.args.theirs.now.space c.args.theirs.now.page c.requires.alone (found_there c.args.ledger.now c.args.theirs.now c.requires.theirs) c.requires.away
    (state_of (view_of c.change_frame.new.store c.change_frame.new.ledger)) c.change_frame.ensures.state c.change_frame.ensures.units _

pub returns-clause-state : goal.returns-clause-state
returns-clause-state c =
    rebase_state (view_of c.args.store.now c.args.ledger.now) (view_of c.drop_overlay.new.store c.drop_overlay.new.ledger) c.args.page.now.space c.args.page.now.page
    (found_there c.args.ledger.now c.args.page.now c.requires.found) c.drop_overlay.ensures.joined c.drop_overlay.ensures.state
    c.args.theirs.now.space c.args.theirs.now.page c.requires.alone (found_there c.args.ledger.now c.args.theirs.now c.requires.theirs) c.requires.away
    (state_of (view_of c.change_frame.new.store c.change_frame.new.ledger)) c.change_frame.ensures.state
    (state_of (view_of c.give_lines.new.store c.give_lines.new.ledger)) c.args.bits c.args.kept.now c.give_lines.ensures.state c.requires.kept c.requires.sees
