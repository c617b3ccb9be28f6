use Rattle.std.proofs.Common.{Some, None, subst}
use Rattle.number_maps.specs.Rows.{IsNextOne}
use Rattle.page_table.specs.Links.{HasStep, IsStart, Linked}
use Rattle.page_table.proofs.Both.{next_link, next_none}
use Rattle.page_table.proofs.links.LinkMap.next_of_both.Goals as goal
use Rattle.page_table.proofs.links.LinkMap.next_of_both.Goals.{After-step}

-- both lists from the slot on
start : (c : After-step) → IsStart c.self.inside.settled.items c.args.slot c.start_of-at.result
start c = subst (λ l. IsStart l c.args.slot c.start_of-at.result) c.deref.ensures.value c.start_of-at.ensures

start_too : (c : After-step) → IsStart c.self.inside.recent.items c.args.slot c.start_of-other.result
start_too c = subst (λ l. IsStart l c.args.slot c.start_of-other.result) c.deref-2.ensures.value c.start_of-other.ensures

step : (c : After-step) → HasStep c.self.inside.settled.items c.self.inside.recent.items c.start_of-at.result c.start_of-other.result c.step.result
step c =
    subst (λ l. HasStep l c.self.inside.recent.items c.start_of-at.result c.start_of-other.result c.step.result) c.deref-3.ensures.value
    (subst (λ l. HasStep c.deref-3.result.now l c.start_of-at.result c.start_of-other.result c.step.result) c.deref-4.ensures.value c.step.ensures)

pub returns-in-Some : goal.returns-in-Some
returns-in-Some c =
    let here = (goal.at.returns-in-Some c).After-step in
    subst (λ (l : Linked). IsNextOne l.children c.args.slot (Some c.in-Some.link)) c.self.view_is
    (next_link c.self.inside.settled.items c.self.inside.recent.items c.self.invariant c.args.slot c.start_of-at.result c.start_of-other.result
    (start here) (start_too here) c.in-Some.link _ _
    (subst (HasStep c.self.inside.settled.items c.self.inside.recent.items c.start_of-at.result c.start_of-other.result) c.in-Some.is (step here)))

pub returns-in-None : goal.returns-in-None
returns-in-None c =
    let here = (goal.at.returns-in-None c).After-step in
    subst (λ (l : Linked). IsNextOne l.children c.args.slot None) c.self.view_is
    (next_none c.self.inside.settled.items c.self.inside.recent.items c.self.invariant c.args.slot c.start_of-at.result c.start_of-other.result
    (start here) (start_too here)
    (subst (HasStep c.self.inside.settled.items c.self.inside.recent.items c.start_of-at.result c.start_of-other.result) c.in-None.is (step here)))
