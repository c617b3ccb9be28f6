use Rattle.std.proofs.Common.{◌/◌, ◌%◌}
use Rattle.page_table.specs.Nodes.{slot}
use Rattle.page_table.proofs.Trees.{digit_low, upper_first, upper_second}
use Rattle.page_table.proofs.tree.make_leaf.Goals as goal

pub make_child-second-requires-clause-upper : goal.make_child-second-requires-clause-upper
make_child-second-requires-clause-upper c =
    upper_first c.make_child-first.new.links.children (c.args.above / 512 / 512 % 512) c.make_child-first.result (digit_low (c.args.above / 512 / 512))
    c.make_child-first.ensures.made.there

pub make_child-requires-clause-upper : goal.make_child-requires-clause-upper
make_child-requires-clause-upper c =
    upper_second c.make_child-second.new.links.children (c.args.above / 512 / 512 % 512) (c.args.above / 512 % 512) c.make_child-first.result
    c.make_child-second.result (digit_low (c.args.above / 512 / 512)) (digit_low (c.args.above / 512))
    (c.make_child-second.ensures.made.grown.kept (slot 0 (c.args.above / 512 / 512 % 512)) c.make_child-first.result c.make_child-first.ensures.made.there)
    c.make_child-second.ensures.made.there
