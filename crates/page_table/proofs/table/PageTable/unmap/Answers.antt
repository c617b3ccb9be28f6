use Rattle.page_table.specs.Laws.{one_unmapped_at}
use Rattle.page_table.specs.Kept.{HaveCleared, run_pages}
use Rattle.page_table.specs.Nodes.{pages_by}
use Rattle.page_table.proofs.Held.{held_unmapped, there_low, unmapped_len, unmapped_table}
use Rattle.page_table.proofs.Overlaid.{overlaid_seen, overlaid_unmapped}
use Rattle.page_table.proofs.Fronts.{front_seen, front_unmapped}
use Rattle.page_table.proofs.table.PageTable.unmap.Goals as goal
use Rattle.page_table.proofs.table.PageTable.unmap.Goals.{After-clear_paths}

cleared : (c : After-clear_paths) → HaveCleared c.self.inside.links.children c.self.inside.runs.items c.args.from c.args.n c.clear_paths.new.runs.items
cleared c = c.clear_paths.ensures.cleared

pub clear_paths-requires-clause-low : goal.clear_paths-requires-clause-low
clear_paths-requires-clause-low c =
    there_low c.args.self.now c.self.inside.links.children c.self.inside.runs.items c.args.from c.args.n c.self.view_is c.requires c.ranges.from.fits

pub least_in-least-requires-clause-none : goal.least_in-least-requires-clause-none
least_in-least-requires-clause-none c = c.self.invariant.none

pub passed-self-inside-requires : goal.passed-self-inside-requires
passed-self-inside-requires c =
    there_low c.args.self.now c.self.inside.links.children c.self.inside.runs.items c.args.from c.args.n c.self.view_is c.requires c.ranges.from.fits

pub invariant_of-self : goal.invariant_of-self
invariant_of-self c =
    let here = (goal.at.invariant_of-self c).After-clear_paths in
    record {
      held = held_unmapped c.args.self.now c.self.inside.links.children c.self.inside.runs.items c.clear_paths.new.runs.items c.self.inside.count _ _
          c.args.from c.args.n c.self.view_is c.self.invariant.held (cleared here) c.requires c.clear_paths.ensures.room;
      none = front_unmapped c.args.self.now.pages (pages_by c.self.inside.links.children (run_pages c.clear_paths.new.runs.items))
          c.least_in-least.result c.passed-self-inside.result c.args.from c.args.n
          (front_seen c.args.self.now c.self.inside.links.children c.self.inside.runs.items c.least_in-least.result c.self.view_is
          c.least_in-least.ensures)
          (unmapped_table c.args.self.now c.self.inside.links.children c.self.inside.runs.items c.clear_paths.new.runs.items c.args.from c.args.n
          c.self.view_is (cleared here))
          c.passed-self-inside.ensures;
      overlaid = overlaid_unmapped c.args.self.now.pages (pages_by c.self.inside.links.children (run_pages c.clear_paths.new.runs.items))
          c.self.inside.overlaid c.remove_run.new.self
          (overlaid_seen c.args.self.now c.self.inside.links.children c.self.inside.runs.items c.self.inside.overlaid c.self.view_is
          c.self.invariant.overlaid)
          c.args.from c.args.n
          (unmapped_table c.args.self.now c.self.inside.links.children c.self.inside.runs.items c.clear_paths.new.runs.items c.args.from c.args.n
          c.self.view_is (cleared here))
          c.remove_run.ensures.cut c.remove_run.ensures.are c.remove_run.ensures.room;
    }

pub remove_run-requires : goal.remove_run-requires
remove_run-requires c =
    there_low c.args.self.now c.self.inside.links.children c.self.inside.runs.items c.args.from c.args.n c.self.view_is c.requires c.ranges.from.fits

pub returns-clause-unmapped : goal.returns-clause-unmapped
returns-clause-unmapped c =
    let here = (goal.at.returns-clause-unmapped c).After-clear_paths in
    unmapped_table c.args.self.now c.self.inside.links.children c.self.inside.runs.items c.clear_paths.new.runs.items c.args.from c.args.n c.self.view_is
    (cleared here)

pub returns-clause-one : goal.returns-clause-one
returns-clause-one c is =
    let here = (goal.at.returns-clause-one c).After-clear_paths in
    one_unmapped_at c.args.self.now.pages (pages_by c.self.inside.links.children (run_pages c.clear_paths.new.runs.items)) c.args.from c.args.n is
    (unmapped_table c.args.self.now c.self.inside.links.children c.self.inside.runs.items c.clear_paths.new.runs.items c.args.from c.args.n c.self.view_is
    (cleared here))

pub returns-clause-count : goal.returns-clause-count
returns-clause-count c =
    let here = (goal.at.returns-clause-count c).After-clear_paths in
    unmapped_len c.args.self.now c.self.inside.links.children c.self.inside.runs.items c.clear_paths.new.runs.items c.args.from c.args.n c.self.view_is
    (cleared here) c.requires
