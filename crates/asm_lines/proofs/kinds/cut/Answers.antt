use Rattle.asm_lines.proofs.Cuts.{cut_here, cut_nowhere}
use Rattle.asm_lines.proofs.kinds.cut.Goals as goal

pub returns-then-b-at : goal.returns-then-b-at
returns-then-b-at c = cut_here c.args.bytes.now c.loop-i.i c.args.at c.loop-i-test.true c.loop-i.invariant c.if-b-at.true

pub returns : goal.returns
returns c = cut_nowhere c.args.bytes.now c.loop-i.i c.args.at c.loop-i-test.false c.loop-i.invariant
