use Rattle.std.proofs.Common.{arith}
use Rattle.overlay_bits.proofs.Words.{first_none, first_some}
use Rattle.overlay_bits.proofs.bits.Bits.first.Goals as goal

pub returns-then-self-eq0 : goal.returns-then-self-eq0
returns-then-self-eq0 c = record { first = first_none c.self.inside.word c.args.self c.self.view_is c.if-self-eq0.true }

pub returns : goal.returns
returns c = record { first = first_some c.self.inside.word c.args.self c.self.view_is (omega (arith, c.if-self-eq0.false)) c.self.invariant }
