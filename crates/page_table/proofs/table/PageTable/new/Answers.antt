use Rattle.std.proofs.Common.{ℕ, ◌≡◌, ap, arith, ◌∙◌}
use Rattle.std.specs.Ordering.{nat_cmp}
use Rattle.std.specs.FinMap.{len, len-empty}
use Rattle.page_table.specs.Kept.{run_pages}
use Rattle.page_table.proofs.Held.{bare_pages, held_none}
use Rattle.page_table.proofs.Overlaid.{overlaid_none}
use Rattle.page_table.proofs.table.PageTable.new.Goals as goal
use Rattle.page_table.proofs.table.PageTable.new.Goals.{After-new-4}

none : (c : After-new-4) → len c.new.result.children ≡ 0
none c = ap len c.new.ensures ∙ len-empty nat_cmp ℕ

pub invariant_of-result : goal.invariant_of-result
invariant_of-result c = record {
  held = held_none c.new.result.children c.new-2.result.items _ c.new.ensures c.new-2.ensures.items;
  none = λ q le lt. absurd (omega (arith, lt));
  overlaid = overlaid_none _ c.new-4.result
      (bare_pages c.new.result.children (run_pages c.new-2.result.items) (none c)) c.new-4.ensures;
}

pub returns-clause-pages : goal.returns-clause-pages
returns-clause-pages c = bare_pages c.new.result.children (run_pages c.new-2.result.items) (none c)
