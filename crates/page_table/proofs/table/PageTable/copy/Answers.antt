use Rattle.std.proofs.Common.{◌≡◌, List, ap, ◌∙◌, arith, length}
use Rattle.page_table.specs.declared.run.PageRun.{PageRun}
use Rattle.page_table.specs.Kept.{seen_table}
use Rattle.page_table.proofs.Pages.{length_total}
use Rattle.page_table.proofs.Tables.{cloned}
use Rattle.page_table.proofs.Held.{held_copy}
use Rattle.page_table.proofs.Overlaid.{overlaid_copy}
use Rattle.page_table.proofs.Fronts.{front_same}
use Rattle.page_table.proofs.table.PageTable.copy.Goals as goal
use Rattle.page_table.proofs.table.PageTable.copy.Goals.{In_ok-nodes}

same_links : (c : In_ok-nodes) → c.in_ok-links.links.children ≡ c.self.inside.links.children
same_links c = c.in_ok-links.ensures

same_runs : (c : In_ok-nodes) → c.reserve.new.self.items ≡ c.self.inside.runs.items
same_runs c = c.in_ok-reserve.ensures.items ∙ cloned c.self.inside.runs.items c.in_ok-runs.runs.items c.in_ok-runs.ensures.cases.0

pub overflow_sub-self-inside : goal.overflow_sub-self-inside
overflow_sub-self-inside c =
    let runs = c.self.inside.runs.items in
    let same = cloned runs c.in_ok-runs.runs.items c.in_ok-runs.ensures.cases.0 in
    omega (arith, c.len.ensures, c.in_ok-runs.runs.ok.0, ap length same, length_total 0 runs c.self.invariant.held.kept.rise, c.self.invariant.held.kept.counted)

pub invariant_of-result : goal.invariant_of-result
invariant_of-result c = record {
  held = held_copy c.self.inside.links.children c.in_ok-links.links.children c.self.inside.runs.items c.reserve.new.self.items c.self.inside.count _ _
      c.self.invariant.held (same_links c) (same_runs c)
      (omega (arith, c.in_ok-reserve.ensures.ok, c.in_ok-reserve.ensures.len, c.len.ensures));
  none = front_same c.in_ok-links.links.children c.self.inside.links.children c.reserve.new.self.items c.self.inside.runs.items c.self.inside.front
      (same_links c) (same_runs c) c.self.invariant.none;
  overlaid = overlaid_copy c.in_ok-links.links.children c.self.inside.links.children c.reserve.new.self.items c.self.inside.runs.items c.self.inside.overlaid
      c.in_ok-overlaid.overlaid c.self.inside.count (same_links c) (same_runs c) c.in_ok-overlaid.ensures.chunks
      c.self.invariant.held.counted c.in_ok-overlaid.ensures.room
      c.self.invariant.overlaid;
}

pub returns : goal.returns
returns c =
    ap (λ l. seen_table l c.reserve.new.self.items c.in_ok-overlaid.overlaid.chunks) (same_links c)
    ∙ ap (λ (r : List PageRun). seen_table c.self.inside.links.children r c.in_ok-overlaid.overlaid.chunks) (same_runs c)
    ∙ ap (seen_table c.self.inside.links.children c.self.inside.runs.items) c.in_ok-overlaid.ensures.chunks ∙ c.self.view_is
