use Rattle.space_ledger.proofs.Common.{◌≡◌, ℕ, zero, suc, ◌+◌, ◌-◌, ◌≤◌, ◌<◌, ◌⊎◌, ◌&&◌, true, false, cond, not, nat_eq, nat_lt, List, Option, Some, None, refl, option_and_then, option_map, sym, ap, subst, ◌∙◌, arith, nat_tests}
use Rattle.space_ledger.proofs.Pages.{sharers_of, IsRunFrom, entry_at, PageRun, Entry}
use Rattle.space_ledger.proofs.Views.{is_unused, after_cut, are_cut, cut_page, cut_pages, holds_space, page_in, counted_run, counted_units, frame_units, released_run, run_freed, LedgerView, PageView, ledger_of, origin_of, overlay_at, given_as, unused_is, GivesNothingUp, GivesUpAtLast, IsBareFrom, IsBareRun, IsBooked, entries_of, given_up, IsStartOf}
use Rattle.ledger.specs.Units.{units as units_of}
use Rattle.space_ledger.proofs.Booked.{names}
use Rattle.space_ledger.proofs.Booking.{released_beside, by_two, unused_by_count}
use Rattle.space_ledger.proofs.LedgerCalls.{Released, before_release, removed_call}
use Rattle.space_ledger.proofs.Numbers.{entry_page}
use Rattle.space_ledger.proofs.Removing.{entry_of}

-- What is kept beside the tables while the pages of a run go, one after the other.

-- a frame is unused by the count that is left of it
pub unused_call : (v : LedgerView) (counts : List ℕ) (u n : ℕ) → IsBooked v counts u n → (f z count : ℕ) → f < v.frames → z ≡ v.zero_frame → (f ≡ z → ⊥)
    → count ≡ sharers_of counts f → nat_eq count 0 ≡ is_unused (ledger_of v) (origin_of v.zero_frame f)
unused_call v counts u n kept f z count low zero_is other is =
    let unused = unused_by_count (ledger_of v) v.zero_frame v.frames f counts kept.books.counted low in grind (arith, nat_tests, unused, zero_is, other, is)

pub zero_used : (v : LedgerView) (f z : ℕ) → z ≡ v.zero_frame → f ≡ z → false ≡ is_unused (ledger_of v) (origin_of v.zero_frame f)
zero_used v f z zero_is same = let unused = unused_is (ledger_of v) v.zero_frame f in grind (arith, nat_tests, unused)

-- so what is given up of a page is told by the count of its frame
given_by : ℕ → List ℕ → ℕ → Option ℕ
given_by z counts f = cond (not (nat_eq f z) && nat_eq (sharers_of counts f) 0) (Some f) None

given_by_count : (v : LedgerView) (counts : List ℕ) (u n : ℕ) → IsBooked v counts u n → (x : PageView) → x.entry.frame < v.frames
    → given_up v (Some x) ≡ given_by v.zero_frame counts x.entry.frame
unfolding given_by
given_by_count v counts u n kept x low =
    given_as v x ∙ ap (λ b. cond b (Some x.entry.frame) None) (sym (unused_by_count (ledger_of v) v.zero_frame v.frames x.entry.frame counts kept.books.counted low))

given_still : (z f : ℕ) (a b : List ℕ) → ((f ≡ z → ⊥) → sharers_of a f ≡ sharers_of b f) → given_by z a f ≡ given_by z b f
unfolding given_by
given_still z f a b same = grind (arith, nat_tests, same)

-- The first pages of a run that come before one with own lines.
pub bare_of_run : (v : LedgerView) (s page most few : ℕ) (run : PageRun) (part : Option PageRun) → IsRunFrom (entries_of v s) page run → few ≤ run.n → few ≤ most
    → ((i : ℕ) → i < few → overlay_at v s (page + i) ≡ None) → IsStartOf run page few part → IsBareFrom v s page most part
bare_of_run v s page most few run None first inside within bare start = tt
bare_of_run v s page most few run (Some part) first inside within bare start =
    subst (λ (r : PageRun). IsBareFrom v s page most (Some r)) (sym start.2) (
      start.0,
      start.1,
      within,
      record {
        has = λ i low. entry i (omega (arith, low, inside));
        bare = λ i low. subst (λ p. overlay_at v s (p + i) ≡ None) (sym start.0) (bare i low);
        fits = λ rising. let all = first.fits rising in omega (arith, all, inside);
      },
    )
  where
    entry : (i : ℕ) → i < run.n → option_map (λ (x : PageView). x.entry) (page_in v s (run.page + i)) ≡ Some (entry_at run i)
    entry i low = entry_of v s (run.page + i) (entry_at run i) (first.has i low)

-- what a page leaves and later ones keep is so once all went
after : (P : ℕ → Type 0) (n i : ℕ) → i < n → P (suc i) → ((j : ℕ) → i < j → j < n → P j → P (suc j)) → P n
after P zero i low here keeps = absurd (omega (arith, low))
after P (suc n) i low here keeps = by_two i n
    (λ same. subst (λ m. P (suc m)) same here)
    (λ other. keeps n (before other) (omega arith) (after P n i (before other) here (λ j later low_j. keeps j later (omega (arith, low_j)))))
  where
    before : (i ≡ n → ⊥) → i < n
    before other = grind (arith, low, other)

-- where nothing is freed, no page freed anything
pub nothing_freed : (z : ℕ) (counts : List ℕ) (run : PageRun) (n i : ℕ) → run_freed z counts run n ≡ 0 → i < n
    → frame_units z (released_run z counts run (suc i)) (entry_at run i).frame ≡ 0
unfolding counted_units
nothing_freed z counts run n i none low =
    let most = after (λ m. run_freed z counts run (suc i) ≤ run_freed z counts run m) n i low (omega arith) (λ j later low_j le. omega (arith, le)) in
    omega (arith, most, none)

-- a count that no later page of the run changes
pub count_stays : (z : ℕ) (counts : List ℕ) (run : PageRun) (f n i : ℕ) → i < n → ((j : ℕ) → i < j → j < n → (entry_at run j).frame ≡ f → ⊥)
    → sharers_of (released_run z counts run n) f ≡ sharers_of (released_run z counts run (suc i)) f
unfolding counted_run
count_stays z counts run f n i low differ = after (λ m. sharers_of (released_run z counts run m) f ≡ sharers_of (released_run z counts run (suc i)) f) n i low refl
    (λ j later low_j so_far. released_beside z (released_run z counts run j) (entry_at run j).frame f (λ e. differ j later low_j (sym e)) ∙ so_far)

-- what is so once all pages of a run went
pub record AreFreed (v : LedgerView) (u n s : ℕ) (run : PageRun) (now : List ℕ) (units : ℕ) : Type 0 where
  pub fits : units ≤ u
  pub booked : IsBooked (cut_pages v s run.page run.n) now (u - units) n
  pub count : units_of (ledger_of v) ≡ units_of (ledger_of (cut_pages v s run.page run.n)) + units
  pub given : GivesUpAtLast v (cut_pages v s run.page run.n) s run
  pub nothing : units ≡ 0 → GivesNothingUp v (cut_pages v s run.page run.n) s run

-- What is left once so many pages of a run went.
module _ (v : LedgerView) (counts : List ℕ) (u n : ℕ) (kept : IsBooked v counts u n) (s : ℕ) (run : PageRun) (has : holds_space v s ≡ true) (is : IsBareRun v s run) where
  abbrev left : ℕ → LedgerView
  left k = cut_pages v s run.page k

  abbrev counts_left : ℕ → List ℕ
  counts_left k = released_run v.zero_frame counts run k

  abbrev freed : ℕ → ℕ
  freed k = run_freed v.zero_frame counts run k

  abbrev frame_of : ℕ → ℕ
  frame_of k = (entry_at run k).frame

  record IsFreedAt (k : ℕ) : Type 0 where
    pub fits : freed k ≤ u
    pub booked : IsBooked (left k) (counts_left k) (u - freed k) n

  entry_is : (k : ℕ) → k < run.n → Some (entry_at run k) ≡ option_map (λ (x : PageView). x.entry) (page_in (left k) s (run.page + k))
  entry_is k low = sym (ap (option_map (λ (x : PageView). x.entry)) (after_cut k run.page v s has) ∙ is.has k low)

  zero_is : (k : ℕ) → v.zero_frame ≡ (left k).zero_frame
  zero_is k = sym (are_cut k run.page v s has).keeps.zero_frame

  frames_is : (k : ℕ) → (left k).frames ≡ v.frames
  frames_is k = (are_cut k run.page v s has).keeps.frames

  abbrev freed_next : ℕ → ℕ
  freed_next k = frame_units v.zero_frame (counts_left (suc k)) (frame_of k)

  step : (k : ℕ) → k < run.n → IsFreedAt k → Released (left k) (counts_left (suc k)) (u - freed k) n s (run.page + k) (freed_next k) (frame_of k)
  unfolding counted_run
  step k low so_far =
      removed_call so_far.booked s (run.page + k) v.zero_frame (freed_next k) (entry_at run k) (zero_is k) (entry_is k low) refl refl
      (ap (option_and_then (λ (x : PageView). x.overlay)) (after_cut k run.page v s has) ∙ is.bare k low)

  freed_at : (k : ℕ) → k ≤ run.n → IsFreedAt k
  unfolding cut_pages counted_run counted_units
  freed_at zero low = record { fits = omega arith; booked = let all : u ≡ u - 0 = omega arith in subst (λ m. IsBooked v counts m n) all kept }
  freed_at (suc k) low =
      let so_far = freed_at k (omega (arith, low)) in
      let made = step k (omega (arith, low)) so_far in
      let before = so_far.fits in
      let fits = made.fits in
      let same : u - freed k - freed_next k ≡ u - (freed k + freed_next k) = omega arith in record {
        fits = omega (arith, before, fits);
        booked = subst (λ m. IsBooked (cut_page (left k) s (run.page + k)) (counts_left (suc k)) m n) same made.books;
      }

  -- what is asked before the next frame is let go
  pub before_at : (k : ℕ) → k < run.n → (frame_of k ≡ v.zero_frame) ⊎ (0 < sharers_of (counts_left k) (frame_of k))
  before_at k low =
      before_release (left k) (counts_left k) (u - freed k) n (freed_at k (omega (arith, low))).booked
      s (run.page + k) v.zero_frame (entry_at run k) (zero_is k) (entry_is k low)

  page_is : (k : ℕ) → k < run.n → (o : Option Entry) × (page_in v s (run.page + k) ≡ Some (record { entry = entry_at run k; overlay = o }))
  page_is k low = entry_page v s (run.page + k) (entry_at run k) (sym (is.has k low))

  -- The frames of two pages of the run aren't the same, but the zero frame.
  frames_differ : (i j : ℕ) → i < run.n → j < run.n → (j ≡ i → ⊥) → (frame_of i ≡ v.zero_frame → ⊥) → frame_of j ≡ frame_of i → ⊥
  frames_differ i j low_i low_j other isnt same =
      let one = page_is i low_i in
      let two = page_is j low_j in
      let at = (kept.apart s false false (run.page + j) (run.page + i) _ (names v s (run.page + j) _ two.1 ∙ ap Some same) (names v s (run.page + i) _ one.1) isnt).1 in
      other (omega (arith, at))

  -- So no later page changes the count of its frame.
  count_last : (i : ℕ) → i < run.n → (frame_of i ≡ v.zero_frame → ⊥) → sharers_of (counts_left (suc i)) (frame_of i) ≡ sharers_of (counts_left run.n) (frame_of i)
  count_last i low isnt =
      sym (count_stays v.zero_frame counts run (frame_of i) run.n i low (λ j after before. frames_differ i j low before (λ e. omega (arith, e, after)) isnt))

  given_at : (i k : ℕ) → i < run.n → k ≤ run.n → given_up (left k) (page_in v s (run.page + i)) ≡ given_by v.zero_frame (counts_left k) (frame_of i)
  given_at i k low few =
      let one = page_is i low in
      ap (given_up (left k)) one.1
      ∙ given_by_count (left k) (counts_left k) (u - freed k) n (freed_at k few).booked (record { entry = entry_at run i; overlay = one.0 }) (subst (λ m. frame_of i < m) (sym (frames_is k)) (kept.inside s (run.page + i) _ one.1))
      ∙ ap (λ z. given_by z (counts_left k) (frame_of i)) (sym (zero_is k))

  given_at_last : GivesUpAtLast v (left run.n) s run
  given_at_last i low =
      given_at i (suc i) low (omega (arith, low)) ∙ given_still v.zero_frame (frame_of i) (counts_left (suc i)) (counts_left run.n) (count_last i low)
      ∙ sym (given_at i run.n low (omega arith))

  -- what is given up with a page is what it frees
  given_then : (i : ℕ) → i < run.n → cond (nat_lt 0 (freed_next i)) (Some (frame_of i)) None ≡ given_up (left (suc i)) (page_in v s (run.page + i))
  unfolding cut_pages
  given_then i low =
      (step i low (freed_at i (omega (arith, low)))).answer ∙ ap (given_up (cut_page (left i) s (run.page + i))) (after_cut i run.page v s has)

  nothing_given : freed run.n ≡ 0 → GivesNothingUp v (left run.n) s run
  nothing_given none i low =
      sym (given_at_last i low) ∙ sym (given_then i low)
      ∙ ap (λ k. cond (nat_lt 0 k) (Some (frame_of i)) None) (nothing_freed v.zero_frame counts run run.n i none low)

  -- The same of what the call has.
  pub run_removed : (z : ℕ) (now : List ℕ) (units : ℕ) → z ≡ v.zero_frame → now ≡ released_run z counts run run.n → units ≡ run_freed z counts run run.n → AreFreed v u n s run now units
  run_removed z now units zero_same now_is units_is =
      let all = freed_at run.n (omega arith) in
      let now_here : counts_left run.n ≡ now = sym (now_is ∙ ap (λ k. released_run k counts run run.n) zero_same) in
      let units_here : freed run.n ≡ units = sym (units_is ∙ ap (λ k. run_freed k counts run run.n) zero_same) in
      let fits : units ≤ u = subst (λ k. k ≤ u) units_here all.fits in
      let booked : IsBooked (left run.n) now (u - units) n =
      subst (λ k. IsBooked (left run.n) now (u - k) n) units_here (subst (λ (c : List ℕ). IsBooked (left run.n) c (u - freed run.n) n) now_here all.booked) in
      let before = kept.books.units_is in
      let after = booked.books.units_is in record {
        fits = fits;
        booked = booked;
        count = omega (arith, before, after, fits);
        given = given_at_last;
        nothing = λ none. nothing_given (units_here ∙ none);
      }
