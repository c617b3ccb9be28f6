use Rattle.std.proofs.Common.{ap, nat_eq}
use Rattle.std.proofs.lemmas.Nat.Bits.{bit_at-zero}
use Rattle.overlay_bits.specs.Kept.{has_bit}
use Rattle.overlay_bits.specs.Below.{below_none}
use Rattle.overlay_bits.proofs.bits.Bits.empty.Goals as goal

pub returns : goal.returns
returns c = below_none (has_bit 0) 64 (λ i lt. ap (λ b. nat_eq b 1) (bit_at-zero i))
