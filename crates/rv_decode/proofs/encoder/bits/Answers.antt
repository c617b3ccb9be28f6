use Rattle.std.proofs.Common.{◌<ℤ◌, pos, arith}
use Rattle.std.proofs.lemmas.Int.{ints}
use Rattle.std.proofs.lemmas.Nat.{one_shl}
use Rattle.rv_decode.proofs.Signed.{pow_double, pow_within, bits_of-negative}
use Rattle.rv_decode.proofs.encoder.bits.Goals as goal

pub overflow_cast-result-then-number-lt0 : goal.overflow_cast-result-then-number-lt0
overflow_cast-result-then-number-lt0 c =
    let double = pow_double c.args.count c.requires.some in
    let within = pow_within c.args.count c.requires.within in
    let shifted = one_shl c.args.count 64 (omega arith) in
    (omega (arith, ints), omega (arith, ints))

pub returns-then-number-lt0 : goal.returns-then-number-lt0
returns-then-number-lt0 c =
    let double = pow_double c.args.count c.requires.some in
    let within = pow_within c.args.count c.requires.within in
    let shifted = one_shl c.args.count 64 (omega arith) in
    let negative : c.args.number <ℤ pos 0 = omega (arith, ints) in
    bits_of-negative c.args.count c.args.number _ negative (omega (arith, ints))
