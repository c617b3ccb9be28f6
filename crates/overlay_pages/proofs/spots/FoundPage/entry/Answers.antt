use Rattle.overlay_pages.proofs.FoundLines.{found_entry}
use Rattle.overlay_pages.proofs.spots.FoundPage.entry.Goals as goal

pub returns : goal.returns
returns c = λ view is. found_entry view.table c.args.self.now is
