use Rattle.space_ledger.proofs.Common.{◌≡◌, ℕ, zero, suc, ◌+◌, ◌-◌, ◌≤◌, ◌<◌, Bool, cond, Some, None, refl, nat_tests, sym, ap, subst, ◌∙◌, arith, get, len}
use Rattle.space_ledger.proofs.Pages.{alike, is_within, Pages, IsRunFrom, entry_at, PageRun}
use Rattle.space_ledger.proofs.Views.{SpaceTable, IsCounted, run_awaited}
use Rattle.space_ledger.proofs.Keys.{gone_at, put_at}
use Rattle.space_ledger.proofs.Parts.{count_put, places, same_space, split}

-- A run of pages that await no more.

-- what is at a page of a space then, and what awaits
pub pages_run : (x : SpaceTable) (run : PageRun) (k q : ℕ) → get (run_awaited x run k).pages q ≡ cond (is_within run.page k q) (Some (entry_at run (q - run.page))) (get x.pages q)
unfolding run_awaited
pages_run x run zero q = grind (arith, nat_tests)
pages_run x run (suc k) q = let before = pages_run x run k q in grind (arith, nat_tests, put_at, before)

pub awaiting_run : (x : SpaceTable) (run : PageRun) (k q : ℕ) → get (run_awaited x run k).awaiting q ≡ cond (is_within run.page k q) None (get x.awaiting q)
unfolding run_awaited
awaiting_run x run zero q = grind (arith, nat_tests)
awaiting_run x run (suc k) q = let before = awaiting_run x run k q in grind (arith, nat_tests, gone_at, before)

mark_run : (x : SpaceTable) (run : PageRun) (k : ℕ) → (run_awaited x run k).speculating ≡ x.speculating
unfolding run_awaited
mark_run x run zero = refl
mark_run x run (suc k) = mark_run x run k

-- how many there are
count_run : (x : SpaceTable) (run : PageRun) (k : ℕ) → ((i : ℕ) → i < k → get x.pages (run.page + i) ≡ None) → len (run_awaited x run k).pages ≡ len x.pages + k
unfolding run_awaited
count_run x run zero absent = omega arith
count_run x run (suc k) absent =
    let before = count_run x run k (λ i low. absent i (omega (arith, low))) in
    let none = absent k (omega arith) in
    grind (arith, nat_tests, count_put, pages_run, before, none)

-- the first run that awaits becomes the space's
pub run_shared : (t now : Pages) (end count n : ℕ) (mark : Bool) (run : PageRun) (s : SpaceTable) → split t end mark ≡ s → IsRunFrom s.awaiting 0 run → n ≡ run.n → now ≡ t → IsCounted t end count
    → (split now (run.page + n) mark ≡ run_awaited s run run.n) × IsCounted now (run.page + n) (count + run.n)
run_shared t now end count n mark run s is first_s n_is now_is kept =
    let first = subst (λ (k : SpaceTable). IsRunFrom k.awaiting 0 run) (sym is) first_s in
    let whole : split t (run.page + run.n) mark ≡ run_awaited (split t end mark) run run.n = same_space
    (alike _ _ (λ q.
    let start = first.has 0 first.some in let has = first.has (q - run.page) in let none = first.none q in let back : run.page ≤ q → run.page + (q - run.page) ≡ q = λ le. omega (arith, le) in
    grind (arith, nat_tests, places, pages_run, start, has, none, back)))
    (alike _ _ (λ q.
    let start = first.has 0 first.some in let none = first.none q in
    grind (arith, nat_tests, places, awaiting_run, start, none)))
    (sym (mark_run (split t end mark) run run.n)) in
    let low = first.low in
    let counted = count_run (split t end mark) run run.n (λ i less. let has = first.has i less in grind (arith, nat_tests, places, has)) in
    let pages = kept.pages in (
      (λ i. split (now_is i) (run.page + n_is i) mark) ∙ whole ∙ ap (λ k. run_awaited k run run.n) is,
      subst (λ (m : Pages). IsCounted m (run.page + n) (count + run.n)) (sym now_is) (subst (λ k. IsCounted t (run.page + k) (count + run.n)) (sym n_is) (record {
        pages = ap (λ k. k + run.n) pages ∙ sym counted ∙ sym (ap (λ (k : SpaceTable). len k.pages) whole);
        reach = omega (arith, low);
      })),
    )
