use Rattle.space_ledger.proofs.Common.{◌≡◌, ℕ, zero, suc, ◌+◌, ◌-◌, ◌≤◌, ◌<◌, Bool, cond, Some, None, is_some, IsSome, refl, option_map, sym, ap, subst, ◌∙◌, arith, nat_tests, get, len}
use Rattle.space_ledger.proofs.Pages.{alike, get_viewed, IsNextRun, IsRunFrom, entry_at, Pages, AreThere, IsUnmapped, is_within, PageEntry, PageRun}
use Rattle.space_ledger.proofs.Views.{map_from, none_by, map_some, AreMapped, page_in, space_in, page_of, SpaceTable, IsCounted, without_pages, LedgerView, PageView, overlay_at, AreBare, AreBareOnZero, entries_of}
use Rattle.space_ledger.proofs.Keys.{gone_at}
use Rattle.space_ledger.proofs.Parts.{count_gone, places, same_space, some_count, split}

-- Pages that are taken away, one after the other.

-- what is at a page of a space then, and what is as it was
pub without_at : (k from : ℕ) (x : SpaceTable) (r : ℕ) → get (without_pages x from k).pages r ≡ cond (is_within from k r) None (get x.pages r)
unfolding without_pages
without_at zero from x r = grind (arith, nat_tests)
without_at (suc k) from x r = let before = without_at k from x r in grind (arith, nat_tests, gone_at, before)

without_rest : (k from : ℕ) (x : SpaceTable) → ((without_pages x from k).awaiting ≡ x.awaiting) × ((without_pages x from k).speculating ≡ x.speculating)
unfolding without_pages
without_rest zero from x = (refl, refl)
without_rest (suc k) from x = without_rest k from x

-- how many are left
without_count : (n from : ℕ) (x : SpaceTable) → AreThere x.pages from n → len (without_pages x from n).pages + n ≡ len x.pages
unfolding without_pages
without_count zero from x there = omega arith
without_count (suc n) from x there =
    let rest = without_count n from x (λ q within. there q (grind (arith, nat_tests))) in
    let last = there (from + n) (grind (arith, nat_tests)) in
    let here : IsSome (get (without_pages x from n).pages (from + n)) = grind (arith, nat_tests, without_at, last) in
    let less = count_gone (without_pages x from n).pages (from + n) here in
    let some = some_count (without_pages x from n).pages (from + n) here in
    omega (arith, rest, less, some)

-- a table without some of the pages of the space
pub unmapped : (old new : Pages) (end from n count : ℕ) (mark : Bool) (s : SpaceTable) → split old end mark ≡ s → IsUnmapped old from n new → AreThere s.pages from n → IsCounted old end count
    → (split new end mark ≡ without_pages s from n) × IsCounted new end (count - n) × (n ≤ count)
unmapped old new end from n count mark s is gone there_s kept =
    let there = subst (λ (k : SpaceTable). AreThere k.pages from n) (sym is) there_s in
    let was = split old end mark in
    let left : split new end mark ≡ without_pages was from n = same_space
    (alike _ _ (λ q. let cut = gone q in grind (arith, nat_tests, places, without_at, cut)))
    (alike _ _ (λ q. let cut = gone q in let some = there q in grind (arith, nat_tests, places, cut, some)) ∙ sym (without_rest n from was).0)
    (sym (without_rest n from was).1) in
    let fewer = without_count n from was there in
    let same = ap (λ (k : SpaceTable). len k.pages) left in
    let counted = kept.pages in
    (left ∙ ap (λ k. without_pages k from n) is, record { reach = kept.reach; pages = omega (arith, fewer, same, counted) }, omega (arith, fewer, same, counted))

-- a page without an overlay, as a range
pub bare_one : (v : LedgerView) (s p : ℕ) → IsSome (page_in v s p) → overlay_at v s p ≡ None → AreBare v s p 1
bare_one v s p there none i low = let here : p ≡ p + i = omega (arith, low) in subst (λ q. IsSome (page_in v s q) × (overlay_at v s q ≡ None)) here (there, none)

-- How many pages are zeros.

-- the entry of a page, by those of its space
pub entry_of : (v : LedgerView) (s p : ℕ) (e : PageEntry) → get (entries_of v s) p ≡ Some e → option_map (λ (x : PageView). x.entry) (page_in v s p) ≡ Some e
unfolding entries_of
entry_of v s p e is =
    sym (get_viewed (λ _ (x : PageView). x.entry) (space_in v s).pages p ∙ ap (option_map (λ (x : PageView). x.entry)) (sym (page_of v s p))) ∙ is

-- the first pages of a run on the zero frame
pub zeros_of_run : (v : LedgerView) (s page : ℕ) (run : PageRun) (few many : ℕ) → IsRunFrom (entries_of v s) page run → few ≤ many → many ≤ run.n → (0 < many → run.page ≡ page)
    → ((i : ℕ) → i < many → (entry_at run i).frame ≡ v.zero_frame) → ((i : ℕ) → i < few → overlay_at v s (page + i) ≡ None) → AreBareOnZero v s page few
zeros_of_run v s page run few many first fits inside start on_zero bare i less =
    let same = start (omega (arith, less, fits)) in
    let entry : get (entries_of v s) (page + i) ≡ Some (entry_at run i) = ap (λ p. get (entries_of v s) (p + i)) (sym same) ∙ first.has i (omega (arith, less, fits, inside)) in
    let entry_is = entry_of v s (page + i) (entry_at run i) entry in (
      map_from (λ (x : PageView). x.entry) (page_in v s (page + i)) (entry_at run i) entry_is
          (λ x there same. ap (option_map (λ (y : PageView). y.entry.frame)) there ∙ ap (λ (e : PageEntry). Some e.frame) same ∙ ap Some (on_zero i (omega (arith, less, fits)))),
      bare i less,
    )

-- Which pages are there, by a run of their entries.

entry_some : (v : LedgerView) (s p : ℕ) → is_some (get (entries_of v s) p) ≡ is_some (page_in v s p)
unfolding entries_of
entry_some v s p =
    ap is_some (get_viewed (λ _ (x : PageView). x.entry) (space_in v s).pages p ∙ ap (option_map (λ (x : PageView). x.entry)) (sym (page_of v s p)))
    ∙ map_some (λ (x : PageView). x.entry) (page_in v s p)

pub run_there : (v : LedgerView) (s page : ℕ) (run : PageRun) → IsRunFrom (entries_of v s) page run → run.page ≡ page → AreMapped v s page run.n
run_there v s page run first same i less =
    subst (λ p. IsSome (page_in v s (p + i))) same (sym (entry_some v s (run.page + i)) ∙ ap is_some (first.has i less))

pub run_past : (v : LedgerView) (s page : ℕ) (run : PageRun) → IsRunFrom (entries_of v s) page run → (run.page ≡ page → ⊥) → page_in v s page ≡ None
run_past v s page run first other =
    let from = first.from in none_by (page_in v s page) (sym (entry_some v s page) ∙ ap is_some (first.none page (omega arith) (grind (arith, from, other))))

pub no_run_there : (v : LedgerView) (s page : ℕ) → IsNextRun (entries_of v s) page None → page_in v s page ≡ None
no_run_there v s page none = none_by (page_in v s page) (sym (entry_some v s page) ∙ ap is_some (none page (omega arith)))
