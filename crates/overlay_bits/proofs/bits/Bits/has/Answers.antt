use Rattle.overlay_bits.proofs.Words.{are_kept, tested}
use Rattle.overlay_bits.proofs.bits.Bits.has.Goals as goal

pub returns-clause-has : goal.returns-clause-has
returns-clause-has c = tested c.self.inside.word c.args.self c.args.line c.self.view_is c.requires

pub returns-clause-are : goal.returns-clause-are
returns-clause-are c = are_kept c.self.inside.word c.args.self c.self.view_is
