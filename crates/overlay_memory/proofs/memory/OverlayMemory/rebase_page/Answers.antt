use Rattle.overlay_memory.specs.FoundLaws.{to_found}
use Rattle.overlay_memory.specs.Rebased.{CanCompare}
use Rattle.overlay_memory.specs.View.{state_of}
use Rattle.overlay_memory.proofs.memory.OverlayMemory.rebase_page.Goals as goal

pub rebase_found-requires-clause-asked : goal.rebase_found-requires-clause-asked
rebase_found-requires-clause-asked c =
    to_found c.args.self.now.pages c.find_page-found.result c.find_page-theirs.result c.args.space c.args.page c.args.from c.args.other c.find_page-found.ensures.found c.find_page-theirs.ensures.found
    (CanCompare (state_of c.args.self.now)) (record {
      settled = c.requires.settled;
      settled_from = c.requires.settled_from;
      none_awaits = c.requires.none_awaits;
      apart = record { alone = c.requires.can.alone; away = c.requires.can.away };
    })
