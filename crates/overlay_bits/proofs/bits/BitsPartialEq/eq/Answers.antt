use Rattle.std.proofs.Common.{rules}
use Rattle.overlay_bits.proofs.Words.{word_is}
use Rattle.overlay_bits.proofs.bits.BitsPartialEq.eq.Goals as goal

pub returns : goal.returns
returns c = search (word_is, rules)
