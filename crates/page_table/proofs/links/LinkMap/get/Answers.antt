use Rattle.std.proofs.Common.{Some, ap, get_or, subst, sym, ◌∙◌}
use Rattle.std.specs.Vec.{vec_capacity}
use Rattle.number_maps.specs.Rows.{RowsRise}
use Rattle.page_table.specs.Links.{seen_links}
use Rattle.page_table.proofs.Both.{got_row, got_seen}
use Rattle.page_table.proofs.links.LinkMap.get.Goals as goal

pub returns-then-key-slot : goal.returns-then-key-slot
returns-then-key-slot c =
    let rows = c.deref-links.result.now in
    let recent = c.self.inside.recent.items in
    let same = c.deref-links.ensures.value in
    got_seen c.args.self.now rows recent _ c.args.slot (Some (get_or rows c.guess_of-guess.result (0, 0)).1)
    (ap (λ l. seen_links l recent (vec_capacity c.self.inside.recent)) same ∙ c.self.view_is)
    (got_row rows recent c.args.slot c.guess_of-guess.result (subst (RowsRise 0) (sym same) c.self.invariant.rise) c.if-guess-links.true
    c.if-key-slot.true)

pub returns-then-links-other : goal.returns-then-links-other
returns-then-links-other c =
    let rows = c.deref-links.result.now in
    let recent = c.self.inside.recent.items in
    let same = c.deref-links.ensures.value in
    got_seen c.args.self.now rows recent _ c.args.slot (Some (get_or rows c.beside-other.result (0, 0)).1)
    (ap (λ l. seen_links l recent (vec_capacity c.self.inside.recent)) same ∙ c.self.view_is)
    (got_row rows recent c.args.slot c.beside-other.result (subst (RowsRise 0) (sym same) c.self.invariant.rise) c.if-other-links.true
    c.if-links-other.true)
