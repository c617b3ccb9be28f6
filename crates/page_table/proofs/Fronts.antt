use Rattle.std.proofs.Common.{◌≡◌, ℕ, ◌+◌, ◌<◌, ◌≤◌, ◌⊎◌, inl, inr, Bool, true, false, cond, List, Option, Some, None, subst, sym, ap, ◌∙◌, refl, arith}
use Rattle.std.proofs.lemmas.Bool.Decides.{nat_tests}
use Rattle.std.specs.Option.{is_some, IsSome}
use Rattle.std.specs.FinMap.{get, insert}
use Rattle.number_maps.specs.Keys.{get_other}
use Rattle.page_set.specs.Sets.{Chunks}
use Rattle.page_table.specs.declared.entry.PageEntry.{PageEntry}
use Rattle.page_table.specs.declared.run.PageRun.{PageRun}
use Rattle.page_table.specs.Table.{Pages, IsMapped, IsUnmapped, is_within}
use Rattle.page_table.specs.Run.{IsNextRun, IsRunFrom}
use Rattle.page_table.specs.Next.{NoneFrom}
use Rattle.page_table.specs.Laws.{mapped_beside}
use Rattle.page_table.specs.Nodes.{Links, Table, pages_by}
use Rattle.page_table.specs.Kept.{run_pages, seen_table}
use Rattle.page_table.proofs.Nexts.{none_more, run_later}

-- A page below which there is none, and what the calls make of it.

before_run : (from n q : ℕ) → q < from → is_within from n q ≡ false
before_run from n q lt = grind (arith, nat_tests)

before_rest : (from n q : ℕ) → is_within from n q ≡ false → q < from + n → q < from
before_rest from n q beside lt = grind (arith, nat_tests)

pub front_mapped : (old new : Pages) (front low from n : ℕ) (entry : PageEntry) → NoneFrom old 0 front → IsMapped old from n entry new → low ≤ front
    → low ≤ from → NoneFrom new 0 low
front_mapped old new front low from n entry none mapped below sooner q le lt =
    mapped_beside old new from n entry mapped q (before_run from n q (omega (arith, lt, sooner))) ∙ none q le (omega (arith, lt, below))

pub front_unmapped : (old new : Pages) (least low from n : ℕ) → NoneFrom old 0 least → IsUnmapped old from n new
    → (low ≡ least) ⊎ ((from ≡ least) × (low ≡ from + n)) → NoneFrom new 0 low
front_unmapped old new least low from n none unmapped is q le lt = unmapped q ∙ by (is_within from n q) refl is
  where
    by : (b : Bool) → is_within from n q ≡ b → (low ≡ least) ⊎ ((from ≡ least) × (low ≡ from + n)) → cond b None (get old q) ≡ None
    by true within here = refl
    by false beside (inl same) = none q le (omega (arith, lt, same))
    by false beside (inr (first, past)) = none q le (omega (arith, first, before_rest from n q beside (omega (arith, lt, past))))

pub front_set : (old new : Pages) (front page : ℕ) (entry : PageEntry) → NoneFrom old 0 front → IsSome (get old page) → new ≡ insert old page entry
    → NoneFrom new 0 front
front_set old new front page entry none there is q le lt =
    ap (λ (m : Pages). get m q) is ∙ get_other old page q entry (λ same. apart (ap (λ (k : ℕ). get old k) (sym same) ∙ none q le lt)) ∙ none q le lt
  where
    apart : get old page ≡ None → ⊥
    apart absent = let no = sym there ∙ ap is_some absent in cc

-- the first pages not below one are those not below a later one, where there is none up to that
pub next_front : (pages : Pages) (front page from : ℕ) (found : Option PageRun) → NoneFrom pages 0 front → page ≤ from
    → (from ≡ page) ⊎ (from ≡ front) → IsNextRun pages from found → IsNextRun pages page found
next_front pages front page from found none le is next = by found next
  where
    up : (from ≡ page) ⊎ (from ≡ front) → NoneFrom pages page from
    up (inl same) q low lt = absurd (omega (arith, same, low, lt))
    up (inr same) q low lt = none q (omega arith) (omega (arith, same, lt))

    by : (r : Option PageRun) → IsNextRun pages from r → IsNextRun pages page r
    by (Some run) at = run_later pages page from run le (up is) at
    by None at = λ q low. none_more pages page from (q + 1) (up is) (λ p here lt. at p here) q low (omega arith)

pub none_least : (pages : Pages) (front : ℕ) (run : PageRun) → NoneFrom pages 0 front → IsRunFrom pages front run → NoneFrom pages 0 run.page
none_least pages front run none next = none_more pages 0 front run.page none next.none

-- what is kept says it of the table that is seen
pub front_seen : {overlaid : Chunks} (table : Table) (links : Links) (runs : List PageRun) (front : ℕ) → seen_table links runs overlaid ≡ table
    → NoneFrom (pages_by links (run_pages runs)) 0 front → NoneFrom table.pages 0 front
front_seen table links runs front is none = subst (λ (t : Table). NoneFrom t.pages 0 front) is none

-- equal links and runs have as few pages
pub front_same : (links old : Links) (runs was : List PageRun) (front : ℕ) → links ≡ old → runs ≡ was
    → NoneFrom (pages_by old (run_pages was)) 0 front → NoneFrom (pages_by links (run_pages runs)) 0 front
front_same links old runs was front same also none =
    subst (λ l. NoneFrom (pages_by l (run_pages runs)) 0 front) (sym same)
    (subst (λ (r : List PageRun). NoneFrom (pages_by old (run_pages r)) 0 front) (sym also) none)
