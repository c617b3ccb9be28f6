use Rattle.std.proofs.Common.{◌≤◌, length, arith, rules}
use Rattle.filled_list.proofs.Fills.{grown}
use Rattle.filled_list.proofs.filled.reach.Goals as goal

pub reaching-preserved : goal.reaching-preserved
reaching-preserved g c =
    let short : length c.reaching.items.items ≤ c.args.at = search rules in (
      grown c.args.items.now.items c.reaching.items.items c.push.new.self.items c.args.rest c.args.at c.reaching.invariant.0.0 c.reaching.invariant.0.1
          c.reaching.invariant.0.2 short c.in-Ok.ensures.items,
      omega (arith, c.reaching.invariant.1, c.in-Ok.ensures.capacity),
    )
