use Rattle.std.proofs.Common.{subst, sym}
use Rattle.overlay_pages.proofs.Views.{IsFoundPage, MemoryView, view_of}
use Rattle.overlay_pages.proofs.Copying.{found_settled, framed_inside}
use Rattle.overlay_pages.specs.Spots.{IsFoundPageAt}
use Rattle.overlay_pages.proofs.pages.OverlayPages.settle_found.Goals as goal

pub writes_frame-requires : goal.writes_frame-requires
writes_frame-requires c =
    framed_inside (view_of c.copy_commit-frame.new.store c.copy_commit-frame.new.ledger) c.args.page.now.space c.args.page.now.page c.copy_commit-frame.result
    c.copy_commit-frame.ensures.joined c.copy_commit-frame.ensures.frame

pub returns-clause-found : goal.returns-clause-found
returns-clause-found c =
    subst (IsFoundPageAt (view_of c.copy_commit-frame.new.store c.copy_commit-frame.new.ledger) c.args.page.now.space c.args.page.now.page) (sym c.on_frame.ensures)
    (found_settled (view_of c.self.inside.store c.self.inside.ledger) (view_of c.copy_commit-frame.new.store c.copy_commit-frame.new.ledger) c.args.page.now
    c.copy_commit-frame.result c.writes_frame.result c.copy_commit-frame.ensures.joined
    (subst (λ (m : MemoryView). IsFoundPage m.table c.args.page.now) (sym c.self.view_is) c.requires.found)
    c.copy_commit-frame.ensures.placed c.copy_commit-frame.ensures.frame c.writes_frame.ensures)
