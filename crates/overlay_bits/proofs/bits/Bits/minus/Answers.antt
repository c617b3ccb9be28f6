use Rattle.std.proofs.Common.{refl}
use Rattle.overlay_bits.proofs.Words.{are_kept, kept_minus}
use Rattle.overlay_bits.proofs.bits.Bits.minus.Goals as goal

pub returns-clause-lines : goal.returns-clause-lines
returns-clause-lines c = kept_minus c.self.inside.word c.other.inside.word c.args.self c.args.other c.self.view_is c.other.view_is c.other.invariant

pub returns-clause-before : goal.returns-clause-before
returns-clause-before c = are_kept c.self.inside.word c.args.self c.self.view_is

pub returns-clause-are : goal.returns-clause-are
returns-clause-are c = are_kept _ _ refl
