use Rattle.std.proofs.Common.{subst}
use Rattle.page_table.specs.Links.{AreMerged}
use Rattle.page_table.proofs.Both.{links_settled}
use Rattle.page_table.proofs.links.LinkMap.settle.Goals as goal
use Rattle.page_table.proofs.links.LinkMap.settle.Goals.{In-Ok}

rows : (c : In-Ok) → AreMerged c.self.inside.settled.items c.self.inside.recent.items c.in-Ok.rows.items
rows c =
    subst (λ l. AreMerged l c.self.inside.recent.items c.in-Ok.rows.items) c.deref.ensures.value
    (subst (λ l. AreMerged c.deref.result.now l c.in-Ok.rows.items) c.deref-2.ensures.value c.in-Ok.ensures)

pub invariant_of-self : goal.invariant_of-self
invariant_of-self c =
    let here = (goal.at.invariant_of-self c).In-Ok in
    links_settled c.self.inside.settled.items c.self.inside.recent.items c.in-Ok.rows.items c.new.result.items (rows here) c.new.ensures.items
