use Rattle.std.proofs.Common.{arith}
use Rattle.delta_image.proofs.Numbers.{read64, short64}
use Rattle.delta_image.proofs.decoding.u64_at.Goals as goal

pub returns-in-Some : goal.returns-in-Some
returns-in-Some c =
    let cut = c.in-Some.ensures.cases in
    read64 c.args.bytes.now c.in-Some.number.now c.in-Some.rest.now c.from_le_bytes.result (λ i. omega (arith, c.type_inv.bytes i))
    (omega (arith, cut.2)) cut.0 cut.1 c.from_le_bytes.ensures

pub returns-in-None : goal.returns-in-None
returns-in-None c = λ v rest fits e. short64 c.args.bytes.now rest v c.in-None.ensures.cases e
