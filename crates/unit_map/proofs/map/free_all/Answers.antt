use Rattle.std.proofs.Common.{◌≡◌, subst, arith}
use Rattle.unit_map.proofs.Making.{IsMade, made_pieces, made_table}
use Rattle.unit_map.proofs.map.free_all.Goals as goal

made : (c : goal.After-freeing) → IsMade c.args.frames c.args.frames c.freeing.cells
made c =
    let e : c.freeing.frame ≡ c.args.frames = omega (arith, c.freeing-test.false, c.freeing.auto.frame-end) in subst (λ n. IsMade c.args.frames n c.freeing.cells) e c.freeing.invariant.0

pub returns-clause-table : goal.returns-clause-table
returns-clause-table c = made_table c.args.frames c.freeing.cells c.requires.few (made c)

pub returns-clause-pieces : goal.returns-clause-pieces
returns-clause-pieces c = made_pieces c.args.frames c.freeing.cells (made c)
