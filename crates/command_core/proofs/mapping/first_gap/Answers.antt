use Rattle.overlay_memory.specs.View.{state_of}
use Rattle.command_core.proofs.Pages.{finds_gap, finds_no_gap}
use Rattle.command_core.proofs.mapping.first_gap.Goals as goal

pub returns-in-Some : goal.returns-in-Some
returns-in-Some c = finds_gap (state_of c.args.memory.now) c.args.p c.args.page c.args.n c.in-Some.found c.requires.low c.in-Some.ensures

pub returns-in-None : goal.returns-in-None
returns-in-None c = finds_no_gap (state_of c.args.memory.now) c.args.p c.args.page c.args.n c.in-None.ensures
