use Rattle.std.proofs.Common.{◌≡◌, ◌+◌, ◌-◌, suc, sym, subst, arith}
use Rattle.unit_map.specs.Cells.{IsIn}
use Rattle.unit_map.proofs.Numbers.{size_is}
use Rattle.unit_map.proofs.Tiles.{lower_in, upper_in}
use Rattle.unit_map.proofs.cells.half_with.Goals as goal

pub returns-then-block-upper-clause-place : goal.returns-then-block-upper-clause-place
returns-then-block-upper-clause-place c =
    let is = c.requires.place in
    let k = c.args.within.order - 1 in
    let up : c.args.within.order ≡ suc k = omega (arith, is.low, c.requires.smaller) in
    lower_in c.args.block.unit c.args.block.order c.args.within.unit k (subst (IsIn c.args.block.unit c.args.block.order c.args.within.unit) up is) (omega (arith, is.low, c.requires.smaller))
    (omega (arith, c.if-block-upper.true, size_is k (omega (arith, is.high))))

pub returns-else-block-upper-clause-place : goal.returns-else-block-upper-clause-place
returns-else-block-upper-clause-place c =
    let is = c.requires.place in
    let k = c.args.within.order - 1 in
    let size = size_is k (omega (arith, is.high)) in
    let up : c.args.within.order ≡ suc k = omega (arith, is.low, c.requires.smaller) in
    subst (λ s. IsIn c.args.block.unit c.args.block.order (c.args.within.unit + s) k) (sym size)
    (upper_in c.args.block.unit c.args.block.order c.args.within.unit k (subst (IsIn c.args.block.unit c.args.block.order c.args.within.unit) up is) (omega (arith, is.low, c.requires.smaller))
    (omega (arith, c.if-block-upper.false, size)))
