use Rattle.std.proofs.Common.{◌≡◌, ◌-◌, ◌≤◌, [], ◌∷◌, subst, arith}
use Rattle.unit_map.specs.Pieces.{free_at}
use Rattle.unit_map.specs.Changes.{split}
use Rattle.unit_map.specs.Counted.{GoAlong}
use Rattle.unit_map.proofs.Counting.{split_few, split_none, split_one}
use Rattle.unit_map.proofs.orders.split.Goals as goal

pub splitting-init : goal.splitting-init
splitting-init c u = split_none c.args.counts.now c.args.from c.args.order u (omega (arith, c.told-counts, c.requires.orders)) c.requires.some

pub overflow_add-counts : goal.overflow_add-counts
overflow_add-counts c =
    let low : c.splitting.below ≤ 4 = omega (arith, c.splitting-test.true, c.requires.orders) in
    omega (arith, split_few c.args.counts.now c.splitting.counts (free_at 0 c.args.from ∷ []) c.args.order (c.splitting.below - c.args.order) c.splitting.below 0 low (c.splitting.invariant 0), c.requires.few c.splitting.below low)

pub splitting-preserved : goal.splitting-preserved
splitting-preserved c u =
    split_one c.args.counts.now c.splitting.counts (free_at u c.args.from ∷ []) c.args.order c.splitting.below u c.splitting.auto.below
    (omega (arith, (c.splitting.invariant u).size, c.told-counts, c.splitting-test.true, c.requires.orders)) (c.splitting.invariant u)

pub returns : goal.returns
returns c u =
    let e : c.splitting.below ≡ c.args.from = omega (arith, c.splitting-test.false, c.splitting.auto.below-end c.requires.orders.0) in
    subst (λ n. GoAlong c.args.counts.now (free_at u c.args.from ∷ []) c.splitting.counts (split u c.args.order (n - c.args.order))) e (c.splitting.invariant u)
