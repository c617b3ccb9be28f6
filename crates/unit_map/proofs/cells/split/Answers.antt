use Rattle.std.proofs.Common.{◌≡◌, ◌+◌, ◌*◌, ◌^◌, ◌%◌, ◌≤◌, sym, ap, subst, arith}
use Rattle.std.proofs.lemmas.Nat.{pow_pos}
use Rattle.unit_map.specs.Cells.{IsSplit}
use Rattle.unit_map.proofs.Numbers.{pow_mono, size_is, twice}
use Rattle.unit_map.proofs.Splits.{split_start, split_more}
use Rattle.unit_map.proofs.cells.split.Goals as goal

pub splitting-init : goal.splitting-init
splitting-init c = split_start c.args.cells.now c.set.new.self c.args.unit c.args.from c.args.order c.taken.result c.set.ensures c.taken.ensures c.requires.low c.requires.range c.requires.inside

pub set-requires-in-splitting : goal.set-requires-in-splitting
set-requires-in-splitting c =
    let k = c.splitting.below in
    let size : 2 ^ (k + 1) ≤ 2 ^ c.args.from = pow_mono (omega (arith, c.splitting-test.true)) in
    omega (arith, size_is k (omega (arith, c.splitting-test.true, c.requires.range.low)), c.splitting.invariant.same.units, c.requires.range.fits, twice k, pow_pos k, size)

pub splitting-preserved : goal.splitting-preserved
splitting-preserved c =
    let k = c.splitting.below in
    let at = c.args.unit + 1 * 2 ^ k % 4294967296 in
    subst (λ cells. IsSplit c.args.cells.now cells c.args.unit c.args.from c.args.order (k + 1)) (sym c.set-in-splitting.ensures)
    (split_more c.args.cells.now c.splitting.cells c.args.unit c.args.from c.args.order k at c.free.result (ap (λ s. c.args.unit + s) (size_is k (omega (arith, c.splitting-test.true, c.requires.range.low)))) c.free.ensures c.splitting-test.true c.requires.range c.splitting.invariant)

pub returns : goal.returns
returns c =
    let e : c.splitting.below ≡ c.args.from = omega (arith, c.splitting-test.false, c.splitting.invariant.to) in
    subst (IsSplit c.args.cells.now c.splitting.cells c.args.unit c.args.from c.args.order) e c.splitting.invariant
