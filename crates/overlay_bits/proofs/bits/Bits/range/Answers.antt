use Rattle.std.proofs.Common.{refl}
use Rattle.overlay_bits.proofs.Words.{are_kept, kept_range}
use Rattle.overlay_bits.proofs.bits.Bits.range.Goals as goal

pub returns-clause-lines : goal.returns-clause-lines
returns-clause-lines c = kept_range c.args.first c.args.end c.requires.order c.requires.inside

pub returns-clause-are : goal.returns-clause-are
returns-clause-are c = are_kept _ _ refl
