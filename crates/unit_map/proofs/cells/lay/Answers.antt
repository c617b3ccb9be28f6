use Rattle.std.proofs.Common.{arith}
use Rattle.unit_map.proofs.Numbers.{pow_mono, size_is}
use Rattle.unit_map.proofs.cells.lay.Goals as goal

pub bounds-part-i : goal.bounds-part-i
bounds-part-i c = omega (arith, c.laying-test.true, size_is c.args.order (omega (arith, c.requires.low)), pow_mono {i = c.args.order} {j = 3} (omega (arith, c.requires.low)))
