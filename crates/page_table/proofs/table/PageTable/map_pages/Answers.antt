use Rattle.std.proofs.Common.{ℕ, ◌+◌, ◌-◌, ◌/◌, List, ap, subst, sym, ◌∙◌, refl, arith}
use Rattle.page_table.specs.declared.run.PageRun.{PageRun}
use Rattle.page_table.specs.Kept.{HaveFilled, HaveLeaves, run_pages}
use Rattle.page_table.specs.Nodes.{pages_by}
use Rattle.page_table.specs.Table.{IsFree}
use Rattle.page_table.specs.Laws.{one_mapped_at}
use Rattle.page_table.proofs.Pages.{length_total}
use Rattle.page_table.proofs.Held.{grown_pages, have_paths, held_mapped, mapped_len, mapped_table, pages_counted}
use Rattle.page_table.proofs.Overlaid.{overlaid_mapped, overlaid_seen}
use Rattle.page_table.proofs.Fronts.{front_mapped, front_seen}
use Rattle.page_table.proofs.table.PageTable.map_pages.Goals as goal
use Rattle.page_table.proofs.table.PageTable.map_pages.Goals.{After-make_leaves, After-fill_paths}

-- the nodes that were made, and the pages that were filled, as changes of what the table had
made : (c : After-make_leaves) → HaveLeaves c.self.inside.links.children (c.args.from / 512) ((c.args.from + c.from.result - 1) / 512 + 1) c.make_leaves.new.links.children
made c =
    subst (λ l. HaveLeaves l (c.args.from / 512) ((c.args.from + c.from.result - 1) / 512 + 1) c.make_leaves.new.links.children)
    c.in_ok-reserve_leaves.ensures.children c.make_leaves.ensures

filled : (c : After-fill_paths) → HaveFilled c.make_leaves.new.links.children c.self.inside.runs.items c.args.from c.args.n
    (record { perms = c.args.perms; frame = c.args.frame }) c.fill_paths.new.runs.items
filled c =
    subst (λ (r : List PageRun). HaveFilled c.make_leaves.new.links.children r c.args.from c.args.n (record { perms = c.args.perms; frame = c.args.frame }) c.fill_paths.new.runs.items)
    c.in_ok-reserve.ensures.items c.fill_paths.ensures.filled

pub overflow_sub-spare : goal.overflow_sub-spare
overflow_sub-spare c =
    let short = length_total 0 c.self.inside.runs.items c.self.invariant.held.kept.rise in
    omega (arith, c.len.ensures, c.self.inside.runs.ok.0, short, c.self.invariant.held.kept.counted)

pub fill_paths-requires-clause-paths : goal.fill_paths-requires-clause-paths
fill_paths-requires-clause-paths c =
    let here = (goal.at.fill_paths-requires-clause-paths c).After-make_leaves in
    have_paths c.self.inside.links.children c.make_leaves.new.links.children c.args.from c.args.n (c.args.from / 512) ((c.args.from + c.from.result - 1) / 512 + 1)
    (made here) refl (ap (λ (n : ℕ). (c.args.from + n - 1) / 512 + 1) c.from.ensures) c.requires.low

pub fill_paths-requires-clause-free : goal.fill_paths-requires-clause-free
fill_paths-requires-clause-free c =
    let here = (goal.at.fill_paths-requires-clause-free c).After-make_leaves in
    let same = ap (λ (r : List PageRun). pages_by c.make_leaves.new.links.children (run_pages r)) c.in_ok-reserve.ensures.items
    ∙ grown_pages c.args.self.now c.self.inside.links.children c.make_leaves.new.links.children c.self.inside.runs.items c.self.inside.count _ c.self.view_is
    c.self.invariant.held (made here).grown in
    subst (λ m. IsFree m c.args.from c.args.n) (sym same) c.requires.free

pub invariant_of-self-2 : goal.invariant_of-self-2
invariant_of-self-2 c =
    let here = (goal.at.invariant_of-self-2 c).After-fill_paths in
    let before = (goal.at.invariant_of-self-2 c).After-make_leaves in
    record {
      held = held_mapped c.args.self.now c.self.inside.links.children c.make_leaves.new.links.children c.self.inside.runs.items c.fill_paths.new.runs.items
          c.self.inside.count _ _ c.args.from c.args.n (record { perms = c.args.perms; frame = c.args.frame }) c.self.view_is c.self.invariant.held (made before).grown
          (filled here) c.requires.free c.requires.few
          (omega (
            arith,
            c.fill_paths.ensures.room,
            c.in_ok-reserve.ensures.ok,
            c.in_ok-reserve.ensures.len,
            c.len.ensures,
            c.self.invariant.held.kept.counted,
            length_total 0 c.self.inside.runs.items c.self.invariant.held.kept.rise,
            c.self.inside.runs.ok.0,
          ));
      none = front_mapped c.args.self.now.pages (pages_by c.make_leaves.new.links.children (run_pages c.fill_paths.new.runs.items)) c.self.inside.front
          c.sooner-self-inside.result c.args.from c.args.n (record { perms = c.args.perms; frame = c.args.frame })
          (front_seen c.args.self.now c.self.inside.links.children c.self.inside.runs.items c.self.inside.front c.self.view_is c.self.invariant.none)
          (mapped_table c.args.self.now c.self.inside.links.children c.make_leaves.new.links.children c.self.inside.runs.items c.fill_paths.new.runs.items
          c.self.inside.count _ c.args.from c.args.n (record { perms = c.args.perms; frame = c.args.frame }) c.self.view_is c.self.invariant.held
          (made before).grown (filled here))
          c.sooner-self-inside.ensures.page c.sooner-self-inside.ensures.other;
      overlaid = overlaid_mapped c.args.self.now.pages (pages_by c.make_leaves.new.links.children (run_pages c.fill_paths.new.runs.items))
          c.self.inside.overlaid c.reserve-2.new.self
          (overlaid_seen c.args.self.now c.self.inside.links.children c.self.inside.runs.items c.self.inside.overlaid c.self.view_is
          c.self.invariant.overlaid)
          c.args.from c.args.n (c.self.inside.count + c.args.n) (record { perms = c.args.perms; frame = c.args.frame })
          (mapped_table c.args.self.now c.self.inside.links.children c.make_leaves.new.links.children c.self.inside.runs.items c.fill_paths.new.runs.items
          c.self.inside.count _ c.args.from c.args.n (record { perms = c.args.perms; frame = c.args.frame }) c.self.view_is c.self.invariant.held
          (made before).grown (filled here))
          c.in_ok-reserve-2.ensures.chunks c.in_ok-reserve-2.ensures.are
          (mapped_len c.args.self.now c.self.inside.links.children c.make_leaves.new.links.children c.self.inside.runs.items c.fill_paths.new.runs.items
          c.self.inside.count _ c.args.from c.args.n (record { perms = c.args.perms; frame = c.args.frame }) c.self.view_is c.self.invariant.held
          (made before).grown (filled here) c.requires.free
          ∙ ap (λ (k : ℕ). k + c.args.n)
          (sym (pages_counted c.args.self.now c.self.inside.links.children c.self.inside.runs.items c.self.inside.count _ c.self.view_is c.self.invariant.held)))
          c.in_ok-reserve-2.ensures.room;
    }

pub returns-clause-mapped : goal.returns-clause-mapped
returns-clause-mapped c =
    let here = (goal.at.returns-clause-mapped c).After-fill_paths in
    let before = (goal.at.returns-clause-mapped c).After-make_leaves in
    mapped_table c.args.self.now c.self.inside.links.children c.make_leaves.new.links.children c.self.inside.runs.items c.fill_paths.new.runs.items
    c.self.inside.count _ c.args.from c.args.n (record { perms = c.args.perms; frame = c.args.frame }) c.self.view_is c.self.invariant.held (made before).grown
    (filled here)

pub returns-clause-one : goal.returns-clause-one
returns-clause-one c is =
    let here = (goal.at.returns-clause-one c).After-fill_paths in
    let before = (goal.at.returns-clause-one c).After-make_leaves in
    one_mapped_at c.args.self.now.pages (pages_by c.make_leaves.new.links.children (run_pages c.fill_paths.new.runs.items)) c.args.from c.args.n
    (record { perms = c.args.perms; frame = c.args.frame }) is
    (mapped_table c.args.self.now c.self.inside.links.children c.make_leaves.new.links.children c.self.inside.runs.items c.fill_paths.new.runs.items
    c.self.inside.count _ c.args.from c.args.n (record { perms = c.args.perms; frame = c.args.frame }) c.self.view_is c.self.invariant.held (made before).grown
    (filled here))

pub returns-clause-count : goal.returns-clause-count
returns-clause-count c =
    let here = (goal.at.returns-clause-count c).After-fill_paths in
    let before = (goal.at.returns-clause-count c).After-make_leaves in
    mapped_len c.args.self.now c.self.inside.links.children c.make_leaves.new.links.children c.self.inside.runs.items c.fill_paths.new.runs.items
    c.self.inside.count _ c.args.from c.args.n (record { perms = c.args.perms; frame = c.args.frame }) c.self.view_is c.self.invariant.held (made before).grown
    (filled here) c.requires.free
