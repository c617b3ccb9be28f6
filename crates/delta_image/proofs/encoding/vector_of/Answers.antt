use Rattle.std.proofs.Common.{[], arith}
use Rattle.delta_image.proofs.Vectors.{next_bit, vector_push}
use Rattle.delta_image.proofs.encoding.vector_of.Goals as goal

pub overflow_shl-vector : goal.overflow_shl-vector
overflow_shl-vector c = (next_bit c.args.lines.now c.lines.line-index (0, []) c.requires c.lines-test.true).inside

pub overflow_add-vector : goal.overflow_add-vector
overflow_add-vector c =
    let next = next_bit c.args.lines.now c.lines.line-index (0, []) c.requires c.lines-test.true in
    let so_far = c.lines.invariant in
    omega (arith, next.fits, so_far)

pub lines-preserved : goal.lines-preserved
lines-preserved c = vector_push c.args.lines.now c.lines.line-index c.lines.vector (0, []) c.requires c.lines-test.true c.lines.invariant
