use Rattle.std.proofs.Common.{◌≡◌, ◌++◌, None, ap, subst, sym, ◌∙◌}
use Rattle.std.specs.FinMap.{get, insert}
use Rattle.number_maps.specs.Rows.{IsGap, map_of}
use Rattle.page_table.specs.Links.{AreLinks, IsStart, Linked}
use Rattle.page_table.proofs.Both.{gap_free, links_with, map_with, seen_free}
use Rattle.page_table.proofs.links.LinkMap.insert.Goals as goal
use Rattle.page_table.proofs.links.LinkMap.insert.Goals.{After-insert}

-- neither list has the slot, and its link would stand at the place
free : (c : After-insert) → (get (map_of c.self.inside.settled.items) c.args.slot ≡ None) × (get (map_of c.self.inside.recent.items) c.args.slot ≡ None)
free c = seen_free c.args.self.now c.self.inside.settled.items c.self.inside.recent.items _ c.args.slot c.self.view_is c.requires.free

gap : (c : After-insert) → IsGap c.self.inside.recent.items c.args.slot c.start_of-at.result
gap c =
    gap_free c.self.inside.recent.items c.args.slot c.start_of-at.result c.self.invariant.rise_too
    (subst (λ l. IsStart l c.args.slot c.start_of-at.result) c.deref.ensures.value c.start_of-at.ensures) (free c).1

pub invariant_of-self : goal.invariant_of-self
invariant_of-self c =
    let here = (goal.at.invariant_of-self c).After-insert in
    subst (AreLinks c.self.inside.settled.items) (sym c.in-Ok.ensures.items)
    (links_with c.self.inside.settled.items c.self.inside.recent.items c.args.slot c.start_of-at.result c.args.child (gap here) (free here).0
    c.self.invariant)

pub returns-clause-children : goal.returns-clause-children
returns-clause-children c =
    let here = (goal.at.returns-clause-children c).After-insert in
    ap (λ l. map_of (c.self.inside.settled.items ++ l)) c.in-Ok.ensures.items
    ∙ map_with c.self.inside.settled.items c.self.inside.recent.items c.args.slot c.start_of-at.result c.args.child (gap here) (free here).0
    ∙ ap (λ (l : Linked). insert l.children c.args.slot c.args.child) c.self.view_is
