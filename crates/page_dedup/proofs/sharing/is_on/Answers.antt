use Rattle.overlay_memory.specs.Joined.{page_low}
use Rattle.overlay_memory.specs.View.{state_of}
use Rattle.overlay_pages.specs.State.{books}
use Rattle.page_dedup.proofs.Marking.{found_on, none_on, told_on}
use Rattle.page_dedup.proofs.sharing.is_on.Goals as goal

pub returns-in-Some-clause-on : goal.returns-in-Some-clause-on
returns-in-Some-clause-on c =
    found_on (books (state_of c.args.mem.now)) c.args.space c.args.page c.in-Some.found c.args.frame (told_on (state_of c.args.mem.now) c.args.space c.args.page _ c.in-Some.ensures.frame)

pub returns-in-Some-clause-low : goal.returns-in-Some-clause-low
returns-in-Some-clause-low c = page_low c.args.mem.now.pages c.in-Some.ensures.joined c.args.space c.args.page c.requires.there

pub returns-in-None-clause-on : goal.returns-in-None-clause-on
returns-in-None-clause-on c =
    none_on (books (state_of c.args.mem.now)) c.args.space c.args.page c.args.frame (told_on (state_of c.args.mem.now) c.args.space c.args.page _ c.in-None.ensures.frame)

pub returns-in-None-clause-low : goal.returns-in-None-clause-low
returns-in-None-clause-low c = page_low c.args.mem.now.pages c.in-None.ensures.joined c.args.space c.args.page c.requires.there
