use Rattle.std.proofs.Common.{◌≡◌, ℕ, zero, suc, ◌+◌, ◌-◌, ◌^◌, ◌<◌, ◌≤◌, Bool, true, false, cond, List, [], ◌∷◌, Option, Some, None, length, slice_set, sym, ap, subst, ◌∙◌, refl, arith, Bor, ◌↔◌, get_or}
use Rattle.std.proofs.lemmas.List.{map-id}
use Rattle.std.proofs.lemmas.Slice.Zip.{AllZip-map}
use Rattle.std.specs.List as list
use Rattle.std.specs.List.{AllZip}
use Rattle.std.specs.Option.{is_some, option_copied, IfSome, IsSome}
use Rattle.std.specs.FinMap.{get, len}
use Rattle.number_maps.specs.Keys.{alike, by_key, get_other, get_same}
use Rattle.page_table.specs.declared.entry.PageEntry.{PageEntry}
use Rattle.page_table.specs.declared.run.PageRun.{PageRun}
use Rattle.page_table.specs.Table.{Pages, is_within, IsFree, AreThere, IsUnmapped, IsNext}
use Rattle.page_table.specs.Run.{IsRunFrom, entry_at}
use Rattle.page_table.specs.Kept.{IsRest, HaveSamePages, HasFilled, HasRun, HasSet, HaveLost, IsRunBehind, IsRunPlace, IsRun, ComeInOrder, entry_for, plain_run, find_in, lies_in, run_pages, run_at, single, run_tail, total}
use Rattle.page_table.proofs.Pages.{get_in, len_in, same_pages, within_at, within_behind, within_from, within_is, within_to}
use Rattle.page_table.proofs.Places.{found_at, found_none, ends_behind}
use Rattle.page_table.proofs.Edits.{entry_tail, find_insert, item_at, find_put, is_tail, low_at, rise_insert, rise_put, tail_fits, total_insert, total_put}

-- Tables, by the runs that they keep.

-- how many pages there are
pub counted : (pages : Pages) (runs : List PageRun) → run_pages runs ≡ pages → ComeInOrder 0 runs → total runs ≡ len pages
counted pages runs same h = sym (len_in 0 runs h) ∙ ap len same

-- what is found is what there is
pub found_is : (pages : Pages) (runs : List PageRun) (page : ℕ) → run_pages runs ≡ pages → find_in runs page ≡ get pages page
found_is pages runs page same = sym (get_in runs page) ∙ ap (λ (m : Pages). get m page) same

-- What is read at the place of a page: its run, or the first behind it.
run_there : (runs : List PageRun) (page at : ℕ) (run : PageRun) → ComeInOrder 0 runs → IsRunPlace runs page at → at < length runs
    → run ≡ run_at runs at → IsRunBehind runs page run
run_there runs page at run h place there is = record {
  own = subst IsRun (sym is) (low_at 0 runs at h there);
  to = subst (λ (r : PageRun). page < r.page + r.n) (sym is) (ends_behind runs page at place there);
  none = λ q from to. found_none 0 runs page at q h place from (λ _. subst (λ (r : PageRun). q < r.page) is to);
  has = λ i lt.
      let on : run.page + i - run.page ≡ i = omega arith in
      found_at 0 runs (run.page + i) at h there (subst (λ (r : PageRun). r.page ≤ run.page + i) is (omega arith))
      (subst (λ (r : PageRun). run.page + i < r.page + r.n) is (omega (arith, lt)))
      ∙ ap (λ (r : PageRun). Some (entry_for r (run.page + i))) (sym is)
      ∙ ap (λ (k : ℕ). Some (entry_at run k)) on;
}

pub run_read : (runs : List PageRun) (page at : ℕ) (read : Option (Bor PageRun)) → ComeInOrder 0 runs → IsRunPlace runs page at
    → (IsSome read ↔ (at < length runs)) → IfSome read (λ run. run.now ≡ get_or runs at run.now) → HasRun runs page (option_copied read)
run_read runs page at None h place inside is =
    λ q le. found_none 0 runs page at q h place le (λ there. let some = inside.1 there in cc)
run_read runs page at (Some run) h place inside is =
    run_there runs page at run.now h place (inside.0 refl) (item_at runs at run.now (inside.0 refl) is)

-- what is known of a run that holds a page
pub record IsHeld (runs : List PageRun) (page : ℕ) (run : PageRun) : Type 0 where
  pub inside : page - run.page < run.n
  pub few : run.n < 2 ^ 32
  pub fits : run.rising ≡ true → run.entry.frame + (page - run.page) < 2 ^ 32
  pub found : find_in runs page ≡ Some (entry_for run page)

pub held : (runs : List PageRun) (page : ℕ) (run : PageRun) → IsRunBehind runs page run → run.page ≤ page → IsHeld runs page run
held runs page run h le =
    let inside : page - run.page < run.n = omega (arith, h.to, le) in
    let on : run.page + (page - run.page) ≡ page = omega (arith, le) in
    record {
      inside = inside;
      few = h.own.few;
      fits = tail_fits run (page - run.page) h.own inside;
      found = subst (λ q. find_in runs q ≡ Some (entry_for run page)) on (h.has (page - run.page) inside);
    }

-- The frames of a run that is rising are numbers of 32 bits.
run_fits : (run : PageRun) → IsRun run → run.rising ≡ true → run.entry.frame + run.n ≤ 2 ^ 32
run_fits run is rising =
    let last = subst (λ (b : Bool). cond b (run.entry.frame + (run.n - 1)) run.entry.frame < 2 ^ 32) rising (is.frames (run.n - 1) (omega (arith, is.some))) in
    omega (arith, last, is.some)

-- the next run from a page on is that run, where it begins at the page or behind it
pub whole_run : (pages : Pages) (runs : List PageRun) (page : ℕ) (run : PageRun) → run_pages runs ≡ pages → IsRunBehind runs page run → page ≤ run.page
    → IsRest pages page run
whole_run pages runs page run same h le = record {
  from = le;
  some = h.own.some;
  none = λ q from to. sym (found_is pages runs q same) ∙ h.none q from to;
  has = λ i lt. sym (found_is pages runs (run.page + i) same) ∙ h.has i lt;
  low = h.own.low;
  fits = run_fits run h.own;
}

-- and else its pages from that one on
pub rest_of_run : (pages : Pages) (runs : List PageRun) (page : ℕ) (run : PageRun) → run_pages runs ≡ pages → IsRunBehind runs page run → run.page < page
    → IsRest pages page (run_tail run (page - run.page))
rest_of_run pages runs page run same h lt =
    let n = page - run.page in
    let own = is_tail run n h.own (omega (arith, h.to, lt)) in
    record {
      from = omega (arith, lt);
      some = own.some;
      none = λ q from to. absurd (omega (arith, from, to, lt));
      has = λ i less.
          let on : run.page + (n + i) ≡ run.page + n + i = omega arith in
          sym (found_is pages runs (run.page + n + i) same)
          ∙ subst (λ q. find_in runs q ≡ Some (entry_at run (n + i))) on (h.has (n + i) (omega (arith, less, h.to, lt)))
          ∙ ap (λ (e : PageEntry). Some e) (sym (entry_tail run n i));
      low = own.low;
      fits = run_fits (run_tail run n) own;
    }

-- the first page of the next run is the next page
pub next_first : (pages : Pages) (page : ℕ) (run : PageRun) → IsRunFrom pages page run → IsNext pages page (Some (run.page, run.entry))
next_first pages page run next = (next.from, has, next.none)
  where
    first : (b : Bool) → cond b (run.entry.frame + 0) run.entry.frame ≡ run.entry.frame
    first true = omega arith
    first false = refl

    entry_with : ℕ → PageEntry
    entry_with f = record { perms = run.entry.perms; frame = f }

    has : get pages run.page ≡ Some run.entry
    has =
        let on : run.page + 0 ≡ run.page = omega arith in
        ap (get pages) (sym on) ∙ next.has 0 next.some ∙ ap (λ (f : ℕ). Some (entry_with f)) (first run.rising)

-- What is kept.

-- A run of n pages is put in.
pub filled_run : (runs new : List PageRun) (from n at : ℕ) (entry : PageEntry) → ComeInOrder 0 runs → IsFree (run_pages runs) from n → from + n ≤ 2 ^ 41
    → 0 < n → n < 2 ^ 32 → entry.frame < 2 ^ 32 → IsRunPlace runs from at → new ≡ list.insert runs at (plain_run from n entry)
    → HasFilled runs from n entry new
filled_run runs new from n at entry h free low some few fits place is =
    subst (HasFilled runs from n entry) (sym is) (record {
      pages = λ q.
          get_in (list.insert runs at (plain_run from n entry)) q
          ∙ find_insert 0 runs at q (plain_run from n entry) h place
          ∙ ap (λ (o : Option PageEntry). cond (is_within from n q) (Some entry) o) (sym (get_in runs q));
      rise = rise_insert 0 runs at (plain_run from n entry) h (omega arith) (record { some = some; few = few; low = low; frames = λ i _. fits })
          (λ q within. sym (get_in runs q) ∙ free q within) place;
      count = total_insert runs at (plain_run from n entry) place.inside;
    })

-- and is joined with those round it
pub filled_joined : (runs put new : List PageRun) (from n : ℕ) (entry : PageEntry) → HasFilled runs from n entry put → HaveSamePages put new
    → HasFilled runs from n entry new
filled_joined runs put new from n entry filled same = record {
  pages = λ q. ap (λ (m : Pages). get m q) (same_pages put new same.found) ∙ filled.pages q;
  rise = same.rise;
  count = omega (arith, filled.count, same.count);
}

-- A page that is a run of its own is given an entry, and the runs round it are joined.
pub set_one : (runs cut put new : List PageRun) (page at : ℕ) (e : PageEntry) → HaveSamePages runs cut → at < length cut → (run_at cut at).page ≡ page
    → (run_at cut at).n ≡ 1 → put ≡ slice_set cut at (single page e) → HaveSamePages put new → HasSet runs page e new
set_one runs cut put new page at e parts there begins one is joined = record {
  pages = alike _ _ (λ q.
      get_in new q ∙ joined.found q ∙ ap (λ (rs : List PageRun). find_in rs q) is ∙ find_put 0 cut at page q e parts.rise there begins one
      ∙ by_key q page
      (λ same.
      ap (λ (b : Bool). cond b (Some e) (find_in cut q)) (within_is page 1 q (omega (arith, same)) (omega (arith, same)))
      ∙ sym (get_same (run_pages runs) page q e same))
      (λ other.
      ap (λ (b : Bool). cond b (Some e) (find_in cut q)) (outside q other) ∙ parts.found q ∙ sym (get_in runs q)
      ∙ sym (get_other (run_pages runs) page q e other)));
  rise = joined.rise;
  count = joined.count ∙ ap total is ∙ total_put cut at page e there one ∙ parts.count;
}
  where
    outside : (q : ℕ) → (q ≡ page → ⊥) → is_within page 1 q ≡ false
    outside q other = by (is_within page 1 q) refl
      where
        by : (b : Bool) → is_within page 1 q ≡ b → b ≡ false
        by true h = absurd (other (omega (arith, within_from page 1 q h, within_to page 1 q h)))
        by false h = refl

-- what is set before the runs are joined rises
pub set_rises : (cut put : List PageRun) (page at : ℕ) (e : PageEntry) → ComeInOrder 0 cut → at < length cut → (run_at cut at).page ≡ page
    → (run_at cut at).n ≡ 1 → e.frame < 2 ^ 32 → put ≡ slice_set cut at (single page e) → ComeInOrder 0 put
set_rises cut put page at e h there begins one fits is = subst (ComeInOrder 0) (sym is) (rise_put 0 cut at page e h there begins one fits)

-- Pages are taken away, run by run.

-- What holds while pages are taken away: those before `at` are gone, and there is room for the others.
pub record IsClearing (old : List PageRun) (from n had at left has : ℕ) (now : List PageRun) : Type 0 where
  pub begun : from ≤ at
  pub place : at + left ≡ from + n
  pub lost : HaveLost old from (at - from) now
  pub roomy : had ≤ has
  pub enough : total old ≤ had

-- the next page is still there
pub lost_next : (old now : List PageRun) (from done n : ℕ) → AreThere (run_pages old) from n → done < n → HaveLost old from done now
    → IsSome (find_in now (from + done))
lost_next old now from done n there lt lost =
    ap is_some (lost.found (from + done)
    ∙ ap (λ (b : Bool). cond b None (find_in old (from + done))) (within_behind from done (from + done) (omega arith))
    ∙ sym (get_in old (from + done)))
    ∙ there (from + done) (within_at from n done lt)

pub unmapped_run : (pages : Pages) (runs new : List PageRun) (from n : ℕ) → run_pages runs ≡ pages → HaveLost runs from n new
    → IsUnmapped pages from n (run_pages new)
unmapped_run pages runs new from n same lost q =
    get_in new q ∙ lost.found q ∙ ap (λ (o : Option PageEntry). cond (is_within from n q) None o) (found_is pages runs q same)

-- Runs that are clones one by one are the same.
pub cloned : (runs copies : List PageRun) → AllZip (λ run copy. copy ≡ run) runs copies → copies ≡ runs
cloned runs copies each = AllZip-map (λ run. run) runs copies each ∙ map-id runs

-- A page that is there is low, so a run of them ends.

low_found : (from : ℕ) (runs : List PageRun) (page : ℕ) → ComeInOrder from runs → IsSome (find_in runs page) → page < 2 ^ 41
low_found from [] page h some = cc
low_found from (run ∷ runs) page h some = by (lies_in run page) refl (low_found (run.page + run.n) runs page h.2)
  where
    by : (b : Bool) → lies_in run page ≡ b → (IsSome (find_in runs page) → page < 2 ^ 41) → page < 2 ^ 41
    by true is behind = omega (arith, within_to run.page run.n page is, h.1.low)
    by false is behind = behind (sym (ap (λ (b : Bool). is_some (cond b (Some (entry_for run page)) (find_in runs page))) is) ∙ some)

pub there_fits : (pages : Pages) (runs : List PageRun) (from n : ℕ) → run_pages runs ≡ pages → ComeInOrder 0 runs → AreThere pages from n → from < 2 ^ 64
    → from + n < 2 ^ 64
there_fits pages runs from zero same h there low = omega (arith, low)
there_fits pages runs from (suc n) same h there low =
    omega (
      arith,
      low_found 0 runs (from + n) h (ap is_some (found_is pages runs (from + n) same) ∙ there (from + n) (within_at from (suc n) n (omega arith))),
    )
