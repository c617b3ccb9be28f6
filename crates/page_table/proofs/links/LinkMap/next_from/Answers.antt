use Rattle.std.proofs.Common.{ap, subst, sym, ◌∙◌}
use Rattle.std.specs.Vec.{vec_capacity}
use Rattle.number_maps.specs.Rows.{RowsRise}
use Rattle.page_table.specs.Links.{seen_links}
use Rattle.page_table.proofs.Both.{next_row}
use Rattle.page_table.proofs.links.LinkMap.next_from.Goals as goal

pub returns-then-links-guess : goal.returns-then-links-guess
returns-then-links-guess c =
    let recent = c.self.inside.recent.items in
    let same = c.deref-links.ensures.value in
    next_row c.args.self.now c.deref-links.result.now recent _ c.args.slot c.guess_of-guess.result
    (ap (λ l. seen_links l recent (vec_capacity c.self.inside.recent)) same ∙ c.self.view_is) (subst (RowsRise 0) (sym same) c.self.invariant.rise)
    c.if-guess-links.true c.if-links-guess.true
