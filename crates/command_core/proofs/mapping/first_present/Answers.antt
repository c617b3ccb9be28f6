use Rattle.std.proofs.Common.{arith}
use Rattle.overlay_memory.specs.View.{state_of}
use Rattle.command_core.proofs.Pages.{finds_later, finds_none, finds_page}
use Rattle.command_core.proofs.mapping.first_present.Goals as goal

pub returns-then-found-page : goal.returns-then-found-page
returns-then-found-page c =
    finds_page (state_of c.args.memory.now) c.args.p c.args.page c.args.n c.in-Some.found c.requires.low c.in-Some.ensures
    (omega (arith, c.if-found-page.true, c.from.ensures))

pub returns-else-found-page : goal.returns-else-found-page
returns-else-found-page c = finds_later (state_of c.args.memory.now) c.args.p c.args.page c.args.n c.in-Some.found c.in-Some.ensures (omega (arith, c.if-found-page.false, c.from.ensures))

pub returns-in-None : goal.returns-in-None
returns-in-None c = finds_none (state_of c.args.memory.now) c.args.p c.args.page c.args.n c.in-None.ensures
