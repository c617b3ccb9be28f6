use Rattle.std.proofs.Common.{◌∙◌, arith}
use Rattle.std.proofs.lemmas.List.{length-set}
use Rattle.unit_map.proofs.Numbers.{pow_mono, size_is}
use Rattle.unit_map.proofs.Writes.{copied_more}
use Rattle.unit_map.proofs.cells.lift.Goals as goal

pub bounds-part-i : goal.bounds-part-i
bounds-part-i c = omega (arith, c.lifting-test.true, size_is c.args.order (omega (arith, c.requires.low)), pow_mono {i = c.args.order} {j = 3} (omega (arith, c.requires.low)))

pub lifting-preserved : goal.lifting-preserved
lifting-preserved c = (
  length-set c.lifting.part c.lifting.i c.get.result ∙ c.lifting.invariant.0,
  copied_more c.args.cells.now c.lifting.part c.args.from c.lifting.i c.get.result c.get.ensures (omega (arith, bounds-part-i c, c.lifting.invariant.0)) c.lifting.invariant.1,
)
