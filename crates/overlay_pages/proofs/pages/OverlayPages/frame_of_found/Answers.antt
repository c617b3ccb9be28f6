use Rattle.overlay_pages.proofs.Common.{Some, ap, subst, sym, ◌∙◌}
use Rattle.overlay_pages.proofs.Views.{IsJoined, MemoryView}
use Rattle.overlay_pages.proofs.FoundLines.{found_but_zero, found_few}
use Rattle.overlay_pages.proofs.pages.OverlayPages.frame_of_found.Goals as goal

pub frame_but-requires : goal.frame_but-requires
frame_but-requires c = record { few = found_few c.args.self.now c.args.page.now c.requires.found (subst IsJoined c.self.view_is c.self.invariant) }

pub returns-clause-frame : goal.returns-clause-frame
returns-clause-frame c =
    found_but_zero c.args.self.now c.args.page.now c.requires.found c.zero_frame.result (c.zero_frame.ensures ∙ ap (λ (m : MemoryView). m.table.zero_frame) c.self.view_is) ∙ ap Some (sym c.frame_but.ensures.frame)
