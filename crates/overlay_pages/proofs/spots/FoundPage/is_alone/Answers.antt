use Rattle.overlay_pages.proofs.FoundLines.{found_alone}
use Rattle.overlay_pages.proofs.spots.FoundPage.is_alone.Goals as goal

pub returns : goal.returns
returns c = λ view is settled. found_alone view c.args.self.now is settled
