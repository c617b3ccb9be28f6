use Rattle.std.proofs.Common.{refl}
use Rattle.std.proofs.lemmas.Nat.{or_lt}
use Rattle.overlay_bits.proofs.Words.{are_kept, kept_union}
use Rattle.overlay_bits.proofs.bits.Bits.union.Goals as goal

pub invariant_of-result : goal.invariant_of-result
invariant_of-result c = or_lt 64 c.self.inside.word c.other.inside.word c.self.invariant c.other.invariant

pub returns-clause-lines : goal.returns-clause-lines
returns-clause-lines c = kept_union c.self.inside.word c.other.inside.word c.args.self c.args.other c.self.view_is c.other.view_is

pub returns-clause-before : goal.returns-clause-before
returns-clause-before c = (are_kept c.self.inside.word c.args.self c.self.view_is, are_kept c.other.inside.word c.args.other c.other.view_is)

pub returns-clause-are : goal.returns-clause-are
returns-clause-are c = are_kept _ _ refl
