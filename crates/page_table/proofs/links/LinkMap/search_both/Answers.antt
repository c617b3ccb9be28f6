use Rattle.std.proofs.Common.{Some, ap, sym, ◌∙◌}
use Rattle.std.specs.FinMap.{get}
use Rattle.number_maps.specs.Rows.{map_of}
use Rattle.page_table.proofs.Both.{got_first, got_later, got_second, got_seen, got_still}
use Rattle.page_table.proofs.links.LinkMap.search_both.Goals as goal

-- a new node: its links are recent
pub returns-in-Some : goal.returns-in-Some
returns-in-Some c =
    got_seen c.args.self.now c.self.inside.settled.items c.self.inside.recent.items _ c.args.slot (Some c.in-Some.child) c.self.view_is
    (got_later c.self.inside.settled.items c.self.inside.recent.items c.args.slot c.in-Some.child c.self.invariant.apart
    (ap (λ l. get (map_of l) c.args.slot) (sym c.deref.ensures.value) ∙ sym c.child_of.ensures ∙ c.in-Some.is))

pub returns-in-None : goal.returns-in-None
returns-in-None c =
    got_seen c.args.self.now c.self.inside.settled.items c.self.inside.recent.items _ c.args.slot c.child_of-in-None.result c.self.view_is
    (got_still c.self.inside.settled.items c.self.inside.recent.items c.args.slot c.child_of-in-None.result
    (ap (λ l. get (map_of l) c.args.slot) (sym c.deref.ensures.value) ∙ sym c.child_of.ensures ∙ c.in-None.is)
    (ap (λ l. get (map_of l) c.args.slot) (sym c.deref-in-None.ensures.value) ∙ sym c.child_of-in-None.ensures))

-- another one: they may be settled
pub returns-in-Some-child_of : goal.returns-in-Some-child_of
returns-in-Some-child_of c =
    got_seen c.args.self.now c.self.inside.settled.items c.self.inside.recent.items _ c.args.slot (Some c.in-Some-child_of.child) c.self.view_is
    (got_first c.self.inside.settled.items c.self.inside.recent.items c.args.slot c.in-Some-child_of.child
    (ap (λ l. get (map_of l) c.args.slot) (sym c.deref-else-is_new.ensures.value) ∙ sym c.child_of-else-is_new.ensures ∙ c.in-Some-child_of.is))

pub returns-in-None-child_of : goal.returns-in-None-child_of
returns-in-None-child_of c =
    got_seen c.args.self.now c.self.inside.settled.items c.self.inside.recent.items _ c.args.slot c.child_of-in-None-child_of.result c.self.view_is
    (got_second c.self.inside.settled.items c.self.inside.recent.items c.args.slot c.child_of-in-None-child_of.result
    (ap (λ l. get (map_of l) c.args.slot) (sym c.deref-else-is_new.ensures.value) ∙ sym c.child_of-else-is_new.ensures ∙ c.in-None-child_of.is)
    (ap (λ l. get (map_of l) c.args.slot) (sym c.deref-in-None-child_of.ensures.value) ∙ sym c.child_of-in-None-child_of.ensures))
