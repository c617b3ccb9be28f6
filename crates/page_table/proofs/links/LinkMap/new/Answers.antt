use Rattle.page_table.proofs.Both.{links_none}
use Rattle.page_table.proofs.links.LinkMap.new.Goals as goal

pub invariant_of-result : goal.invariant_of-result
invariant_of-result c = links_none c.new.result.items c.new-2.result.items c.new.ensures.items c.new-2.ensures.items
