use Rattle.overlay_bits.proofs.Words.{are_kept}
use Rattle.overlay_bits.proofs.bits.Bits.iter.Goals as goal

pub returns-clause-are : goal.returns-clause-are
returns-clause-are c = are_kept c.self.inside.word c.args.self c.self.view_is
