use Rattle.overlay_bits.proofs.Words.{are_kept, ones_before}
use Rattle.overlay_bits.proofs.bits.Bits.rank.Goals as goal

pub returns-clause-rank : goal.returns-clause-rank
returns-clause-rank c = ones_before c.self.inside.word c.args.line c.args.self c.self.view_is c.requires

pub returns-clause-are : goal.returns-clause-are
returns-clause-are c = are_kept c.self.inside.word c.args.self c.self.view_is
