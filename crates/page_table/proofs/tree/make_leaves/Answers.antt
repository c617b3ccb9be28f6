use Rattle.std.proofs.Common.{arith}
use Rattle.page_table.proofs.Trees.{leaves_more}
use Rattle.page_table.proofs.tree.make_leaves.Goals as goal

pub making-preserved : goal.making-preserved
making-preserved c =
    let so_far = c.making.invariant in (
      leaves_more c.args.links.now.children c.making.links.children c.make_leaf.new.links.children c.args.from c.making.above so_far.2 so_far.0 c.make_leaf.ensures.made,
      omega (arith, so_far.1, so_far.2, c.make_leaf.ensures.room),
      omega (arith, so_far.2),
    )
