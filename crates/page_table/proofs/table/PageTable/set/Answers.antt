use Rattle.std.proofs.Common.{◌≡◌, Some, ap, sym, ◌∙◌}
use Rattle.std.specs.Option.{is_some}
use Rattle.page_table.specs.Nodes.{pages_by, page_slot}
use Rattle.page_table.specs.Kept.{run_pages}
use Rattle.page_table.proofs.Overlaid.{overlaid_seen, overlaid_set}
use Rattle.page_table.proofs.Fronts.{front_seen, front_set}
use Rattle.page_table.proofs.Pages.{get_in}
use Rattle.page_table.proofs.Held.{got_none, got_page, held_set, set_table}
use Rattle.page_table.proofs.table.PageTable.set.Goals as goal
use Rattle.page_table.proofs.table.PageTable.set.Goals.{In-Some}

at : (c : In-Some) → page_slot c.self.inside.links.children c.args.page ≡ Some c.in-Some.slot
at c = sym c.slot_in.ensures ∙ c.in-Some.is

pub set_page-requires-clause-there : goal.set_page-requires-clause-there
set_page-requires-clause-there c =
    let here = (goal.at.set_page-requires-clause-there c).In-Some in
    ap is_some (sym (get_in c.self.inside.runs.items c.in-Some.slot)
    ∙ got_page c.args.self.now c.self.inside.links.children c.self.inside.runs.items c.args.page c.in-Some.slot c.self.view_is (at here))
    ∙ c.requires

pub invariant_of-self : goal.invariant_of-self
invariant_of-self c =
    let here = (goal.at.invariant_of-self c).In-Some in
    record {
      held = held_set c.args.self.now c.self.inside.links.children c.self.inside.runs.items c.set_page.new.runs.items c.self.inside.count _ _ c.args.page
          c.in-Some.slot c.args.e c.self.view_is c.self.invariant.held (at here) c.set_page.ensures.set c.requires c.set_page.ensures.room;
      none = front_set c.args.self.now.pages (pages_by c.self.inside.links.children (run_pages c.set_page.new.runs.items)) c.self.inside.front c.args.page
          c.args.e (front_seen c.args.self.now c.self.inside.links.children c.self.inside.runs.items c.self.inside.front c.self.view_is c.self.invariant.none)
          c.requires
          (set_table c.args.self.now c.self.inside.links.children c.self.inside.runs.items c.set_page.new.runs.items c.args.page c.in-Some.slot c.args.e
          c.self.view_is c.self.invariant.held.tree (at here) c.set_page.ensures.set);
      overlaid = overlaid_set c.args.self.now.pages (pages_by c.self.inside.links.children (run_pages c.set_page.new.runs.items)) c.self.inside.overlaid
          c.args.page c.args.e
          (overlaid_seen c.args.self.now c.self.inside.links.children c.self.inside.runs.items c.self.inside.overlaid c.self.view_is
          c.self.invariant.overlaid)
          c.requires
          (set_table c.args.self.now c.self.inside.links.children c.self.inside.runs.items c.set_page.new.runs.items c.args.page c.in-Some.slot c.args.e
          c.self.view_is c.self.invariant.held.tree (at here) c.set_page.ensures.set);
    }

pub unreachable-requires : goal.unreachable-requires
unreachable-requires c =
    let none = got_none c.args.self.now c.self.inside.links.children c.self.inside.runs.items c.args.page c.self.view_is
    (sym c.slot_in.ensures ∙ c.in-None.is) in
    let absent = ap is_some none ∙ c.requires in cc

pub returns-clause-entry : goal.returns-clause-entry
returns-clause-entry c =
    let here = (goal.at.returns-clause-entry c).In-Some in
    set_table c.args.self.now c.self.inside.links.children c.self.inside.runs.items c.set_page.new.runs.items c.args.page c.in-Some.slot c.args.e
    c.self.view_is c.self.invariant.held.tree (at here) c.set_page.ensures.set
