use Rattle.overlay_bits.proofs.Words.{are_kept, ones_kept}
use Rattle.overlay_bits.proofs.bits.Bits.len.Goals as goal

pub returns-clause-count : goal.returns-clause-count
returns-clause-count c = ones_kept c.self.inside.word c.args.self c.self.view_is c.self.invariant

pub returns-clause-are : goal.returns-clause-are
returns-clause-are c = are_kept c.self.inside.word c.args.self c.self.view_is
