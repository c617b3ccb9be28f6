use Rattle.std.proofs.Common.{arith}
use Rattle.overlay_memory.specs.View.{state_of}
use Rattle.command_core.proofs.Pages.{map_free, map_here, map_many}
use Rattle.command_core.proofs.mapping.map_refusal.Goals as goal

pub returns-then-from : goal.returns-then-from
returns-then-from c =
    map_many (state_of c.args.memory.now) c.args.p c.args.address c.args.n c.pages.result c.if-is_speculating.ensures.mark c.if-lie_outside.ensures c.pages.ensures.count
    (omega (arith, c.if-from.true, c.from.ensures, c.from-2.ensures, c.from-3.ensures))

pub returns-in-Some : goal.returns-in-Some
returns-in-Some c =
    map_here (state_of c.args.memory.now) c.args.p c.args.address c.args.n c.pages.result c.in-Some.found c.address_of.result
    c.if-is_speculating.ensures.mark c.if-lie_outside.ensures c.pages.ensures.count
    (omega (arith, c.if-from.false, c.from.ensures, c.from-2.ensures, c.from-3.ensures)) c.in-Some.ensures c.address_of.ensures

pub returns-in-None : goal.returns-in-None
returns-in-None c =
    map_free (state_of c.args.memory.now) c.args.p c.args.address c.args.n c.pages.result
    c.if-is_speculating.ensures.mark c.if-lie_outside.ensures c.pages.ensures.count
    (omega (arith, c.if-from.false, c.from.ensures, c.from-2.ensures, c.from-3.ensures)) c.in-None.ensures
