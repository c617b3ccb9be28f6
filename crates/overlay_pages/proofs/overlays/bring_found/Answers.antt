use Rattle.overlay_pages.proofs.Common.{sym, ap}
use Rattle.overlay_pages.proofs.Stores.{with_line}
use Rattle.overlay_pages.proofs.Books.{lines_of}
use Rattle.overlay_pages.proofs.Views.{view_of}
use Rattle.overlay_pages.proofs.FoundLines.{brought_to, found_own}
use Rattle.overlay_pages.proofs.overlays.bring_found.Goals as goal

pub bring_line-requires-clause-overlay : goal.bring_line-requires-clause-overlay
bring_line-requires-clause-overlay c = c.overlay-overlay.ensures (view_of c.args.store.now c.args.ledger.now) c.requires.joined c.requires.found

pub returns-in-Some-clause-found : goal.returns-in-Some-clause-found
returns-in-Some-clause-found c =
    let v = view_of c.args.store.now c.args.ledger.now in
    brought_to c.args.ledger.now c.bring_line.new.ledger c.args.page c.requires.found
    (record { bits = with_line (lines_of c.overlay-overlay.result) c.args.line; block = c.in-Some.block }) c.in-Some.ensures.stays c.args.line c.with.result
    (ap (λ l. with_line l c.args.line) (sym (found_own v c.args.page c.requires.found c.overlay-overlay.result (c.overlay-overlay.ensures v c.requires.joined c.requires.found))))
    c.with.ensures
