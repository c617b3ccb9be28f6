use Rattle.std.proofs.Common.{ap, ◌∙◌, arith, subst}
use Rattle.overlay_bits.specs.Lines.{with_line}
use Rattle.machine_core.specs.Held.{IsTurned}
use Rattle.machine_core.proofs.Holding.{taken}
use Rattle.machine_core.proofs.hand.Hand.take.Goals as goal

pub returns-in-Some-clause-taken : goal.returns-in-Some-clause-taken
returns-in-Some-clause-taken g c had =
    let altered = c.turn_to.new.self in
    taken c.args.lines.now c.enter.new.self c.args.memory.now c.args.space c.args.self.now altered c.args.pc c.in-Some.line.now c.ranges.pc.fits
    (omega (arith, c.if-pc-ne0.false)) c.in-Some.ensures c.enter.ensures.line c.enter.ensures.others c.requires.hand
    (subst (λ n. IsTurned n c.args.self.now altered) c.start_of.ensures c.turn_to.ensures) c.with-self.result
    (c.with-self.ensures.lines ∙ ap (with_line altered.known) c.line_of.ensures.line)
