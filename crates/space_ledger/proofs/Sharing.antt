use Rattle.space_ledger.proofs.Common.{subst₂, len-insert, nat_cmp_total, nat_tests, LAST_SPACE, ◌≡◌, ℕ, zero, suc, ◌+◌, ◌-◌, ◌^◌, ◌≤◌, ◌<◌, ◌⊎◌, Bool, true, cond, List, Some, None, is_some, IsSome, refl, option_and_then, option_map, sym, ap, subst, ◌∙◌, arith, get, len, remove, PAGE_END}
use Rattle.space_ledger.proofs.Pages.{get_same, is_within, sharers_of, Pages, IsRunFrom, entry_at, PageEntry, PageRun}
use Rattle.space_ledger.proofs.Views.{page_shared_beside, space_put, class, class_none, map_some, holds_space, page_in, put_shared, put_space, space_in, IsLeast, LedgerView, PageView, SpaceView, overlay_at, with_page_shared, with_run_shared, AreBareBelow, AreSharedBare, Still, Then, IsBooked, IsSound, counted_run, counted_units, frame_units, held_by, held_run, run_units}
use Rattle.space_ledger.proofs.Keys.{gone_at}
use Rattle.space_ledger.proofs.Parts.{count_gone, some_count}
use Rattle.space_ledger.proofs.Numbers.{units_bound}
use Rattle.space_ledger.proofs.RunCounts.{coming, units_most}
use Rattle.space_ledger.proofs.LedgerCalls.{before_share, shared_call, shared_frame, shared_view}

-- A run of pages that become a space's one after the other, without overlays.

awaiting_is : (v : LedgerView) (s p : ℕ) (y : PageView) → (space_in (put_shared v s p y) s).awaiting ≡ remove (space_in v s).awaiting p
unfolding put_shared
awaiting_is v s p y = ap (λ (x : SpaceView). x.awaiting) (space_put v s _ s refl)

-- so many pages of a run
record HasReached (v : LedgerView) (s : ℕ) (run : PageRun) (k : ℕ) : Type 0 where
  zero_frame : (with_run_shared v s run k).zero_frame ≡ v.zero_frame
  frames : (with_run_shared v s run k).frames ≡ v.frames
  spaces : len (with_run_shared v s run k).spaces ≡ len v.spaces
  there : holds_space (with_run_shared v s run k) s ≡ true
  waits : (q : ℕ) → get (space_in (with_run_shared v s run k) s).awaiting q ≡ cond (is_within run.page k q) None (get (space_in v s).awaiting q)
  others : (r q : ℕ) → (r ≡ s → is_within run.page k q ≡ true → ⊥) → page_in (with_run_shared v s run k) r q ≡ page_in v r q

reached : (v : LedgerView) (s : ℕ) (run : PageRun) → holds_space v s ≡ true → (k : ℕ) → HasReached v s run k
unfolding with_run_shared put_shared put_space
reached v s run there zero = record { zero_frame = refl; frames = refl; spaces = refl; there = there; waits = λ q. grind (arith, nat_tests); others = λ r q d. refl }
reached v s run there (suc k) =
    let before = reached v s run there k in
    let w = with_run_shared v s run k in
    let p = run.page + k in
    let y : PageView = record { entry = entry_at run k; overlay = None } in record {
      zero_frame = before.zero_frame;
      frames = before.frames;
      spaces = len-insert nat_cmp_total w.spaces s _ ∙ ap (λ (b : Bool). cond b (len w.spaces) (len w.spaces + 1)) before.there ∙ before.spaces;
      there = ap is_some (get_same w.spaces s s _ refl);
      waits = λ q. let was = before.waits q in let now = ap (λ (m : Pages). get m q) (awaiting_is w s p y) in grind (arith, nat_tests, gone_at, was, now);
      others = λ r q d. page_shared_beside w s p y r q (λ ss pp. d ss (grind (arith, nat_tests, pp))) ∙ before.others r q (λ ss within. d ss (grind (arith, nat_tests, within)));
    }

module _ (v : LedgerView) (to : ℕ) (run : PageRun) (has : holds_space v to ≡ true) (first : IsRunFrom (space_in v to).awaiting 0 run) where
  waiting_at : (k : ℕ) → k < run.n → get (space_in (with_run_shared v to run k) to).awaiting (run.page + k) ≡ Some (entry_at run k)
  waiting_at k low = let waits = (reached v to run has k).waits (run.page + k) in let was = first.has k low in grind (arith, nat_tests, waits, was)

  absent_at : ((i : ℕ) → i < run.n → page_in v to (run.page + i) ≡ None) → (k : ℕ) → k < run.n → page_in (with_run_shared v to run k) to (run.page + k) ≡ None
  absent_at absent k low = (reached v to run has k).others to (run.page + k) (λ _ within. grind (arith, nat_tests, within)) ∙ absent k low

-- What is kept beside the tables meanwhile.

-- what is known before a run is shared
pub record SharesRun (v : LedgerView) (counts : List ℕ) (u n from to : ℕ) (run : PageRun) : Type 0 where
  pub kept : IsBooked v counts u n
  pub sound : IsSound v
  pub has : holds_space v to ≡ true
  pub first : IsRunFrom (space_in v to).awaiting 0 run
  pub bare : AreBareBelow v from to (run.page + run.n)

module _ {v : LedgerView} {counts : List ℕ} {u n from to : ℕ} {run : PageRun} (r : SharesRun v counts u n from to run) where
  -- each page of the run is there in the other space, on its frame
  there_from : (i : ℕ) → i < run.n → IsSome (page_in v from (run.page + i))
  there_from i low =
      let was = r.bare (run.page + i) (omega (arith, low)) (ap is_some (r.first.has i low)) in
      sym (map_some (λ (x : PageView). x.entry.frame) (page_in v from (run.page + i))) ∙ ap is_some (sym was.0 ∙ ap (option_map (λ (e : PageEntry). e.frame)) (r.first.has i low))

  pub pages_low : run.page + run.n ≤ PAGE_END
  pages_low =
      let some = r.first.some in
      let low = r.sound.low from (run.page + (run.n - 1)) (there_from (run.n - 1) (omega (arith, some))) in
      omega (arith, some, low)

  frame_in : (i : ℕ) → i < run.n → (entry_at run i).frame < v.frames
  frame_in i low =
      let was = r.bare (run.page + i) (omega (arith, low)) (ap is_some (r.first.has i low)) in
      (shared_frame v counts u n r.kept from to (run.page + i) (entry_at run i) (there_from i low) (r.first.has i low) was.0).3

  -- The same once so many pages of it are shared.
  module _ (absent : (i : ℕ) → i < run.n → page_in v to (run.page + i) ≡ None) where
    at : (k : ℕ) → HasReached v to run k
    at k = reached v to run r.has k

    frame_at_step : (k : ℕ) → k < run.n → (entry_at run k).frame < (with_run_shared v to run k).frames
    frame_at_step k low = subst (λ m. (entry_at run k).frame < m) (sym (at k).frames) (frame_in k low)

    kept_at : (k : ℕ) → k ≤ run.n → IsBooked (with_run_shared v to run k) (held_run v.zero_frame counts run k) (u + run_units v.zero_frame counts run k) n
    unfolding with_run_shared counted_run counted_units
    kept_at zero few = let same : u ≡ u + 0 = omega arith in subst (λ m. IsBooked v counts m n) same r.kept
    kept_at (suc k) few =
        let z = v.zero_frame in
        let w = with_run_shared v to run k in
        let low : k < run.n = omega (arith, few) in
        let frame = (entry_at run k).frame in
        let cost = frame_units z (held_run z counts run k) frame in
        subst₂ (λ j m. IsBooked (put_shared w to (run.page + k) (record { entry = entry_at run k; overlay = None })) (held_by z (held_run z counts run k) frame) j m)
        (sum (run_units z counts run k) cost) (omega arith)
        (shared_call w (held_run z counts run k) (held_by z (held_run z counts run k) frame) (u + run_units z counts run k) n (kept_at k (omega (arith, few))) to (run.page + k) z
        cost 0 (entry_at run k) None (at k).there (absent_at v to run r.has r.first absent k low)
        (waiting_at v to run r.has r.first k low) (frame_at_step k low) (sym (at k).zero_frame) refl refl refl)
      where
        sum : (a b : ℕ) → u + a + b + class 0 ≡ u + (a + b)
        sum a b = omega (arith, class_none)

    -- before a page of it is counted
    pub few_at : (z : ℕ) → z ≡ v.zero_frame → (i : ℕ) → i < run.n
        → ((entry_at run i).frame ≡ z) ⊎ (sharers_of (held_run z counts run i) (entry_at run i).frame < 2 ^ 32 - 1)
    few_at z is i low =
        subst (λ m. ((entry_at run i).frame ≡ m) ⊎ (sharers_of (held_run m counts run i) (entry_at run i).frame < 2 ^ 32 - 1)) (sym is)
        (before_share (with_run_shared v to run i) (held_run v.zero_frame counts run i) (u + run_units v.zero_frame counts run i) n (kept_at i (omega (arith, low))) few v.zero_frame (entry_at run i)
        (frame_at_step i low) (sym (at i).zero_frame))
      where
        few : len (with_run_shared v to run i).spaces ≤ LAST_SPACE + 1
        few = let same = (at i).spaces in let most = r.sound.few in omega (arith, same, most)

    -- and once all are
    pub run_books : (z : ℕ) → z ≡ v.zero_frame → (new : List ℕ) (added : ℕ) → new ≡ held_run z counts run run.n → added ≡ run_units z counts run run.n
        → IsBooked (with_run_shared v to run run.n) new (u + added) n
    run_books z is new added new_is added_is =
        subst (λ (c : List ℕ). IsBooked (with_run_shared v to run run.n) c (u + added) n) (sym (new_is ∙ ap (λ m. held_run m counts run run.n) is))
        (subst (λ m. IsBooked (with_run_shared v to run run.n) (held_run v.zero_frame counts run run.n) (u + m) n) (sym (added_is ∙ ap (λ m. run_units m counts run run.n) is))
        (kept_at run.n (omega arith)))

    pub run_fits : (z : ℕ) → z ≡ v.zero_frame → (added : ℕ) → added ≡ run_units z counts run run.n → u + added < 2 ^ 32
    run_fits z is added added_is =
        let bound = units_bound v counts u n r.kept r.sound in
        let frames = r.kept.frames in
        let most = units_most (coming z) counts run run.n in
        let low = pages_low in
        omega (arith, bound, frames, most, low, added_is)

-- Runs that are shared one after the other are pages that are.

-- one stretch of pages after another
both : {from to until : ℕ} (a b c : LedgerView) → AreSharedBare from to until a b → AreSharedBare from to until b c → AreSharedBare from to until a c
both a b c (Still _) rest = rest
both a b c (Then _ _ page low least absent more) rest = Then a c page low least absent (both _ b c more rest)

-- What holds while pages are shared.
pub record IsSharing (old now : LedgerView) (from to until : ℕ) : Type 0 where
  pub space : holds_space now to ≡ true
  pub bare : AreBareBelow now from to until
  pub run : AreSharedBare from to until old now

-- One more run.
module _ (old v : LedgerView) (from to until : ℕ) (run : PageRun) (differs : from ≡ to → ⊥) (so_far : IsSharing old v from to until)
    (first : IsRunFrom (space_in v to).awaiting 0 run) (under : run.page + run.n ≤ until) where
  least_at : (k : ℕ) → k < run.n → IsLeast (space_in (with_run_shared v to run k) to).awaiting (run.page + k)
  least_at k low = record {
    there = ap is_some (waiting_at v to run so_far.space first k low);
    least = λ q some. let waits = (reached v to run so_far.space k).waits q in let none = first.none q in grind (arith, nat_tests, waits, none, some);
  }

  shared_at : (k : ℕ) → k < run.n
      → with_page_shared (with_run_shared v to run k) from to (run.page + k) None ≡ put_shared (with_run_shared v to run k) to (run.page + k) (record { entry = entry_at run k; overlay = None })
  shared_at k low =
      sym (shared_view (with_run_shared v to run k) from to (run.page + k) (entry_at run k) (overlay_at (with_run_shared v to run k) from (run.page + k)) None None
      (waiting_at v to run so_far.space first k low) refl refl)

  -- as many pages fewer await
  fewer_at : (k : ℕ) → k ≤ run.n → len (space_in (with_run_shared v to run k) to).awaiting + k ≤ len (space_in v to).awaiting
  unfolding with_run_shared
  fewer_at zero few = omega arith
  fewer_at (suc k) few =
      let low : k < run.n = omega (arith, few) in
      let m = (space_in (with_run_shared v to run k) to).awaiting in
      let there : IsSome (get m (run.page + k)) = ap is_some (waiting_at v to run so_far.space first k low) in
      let less = ap len (awaiting_is (with_run_shared v to run k) to (run.page + k) (record { entry = entry_at run k; overlay = None })) ∙ count_gone m (run.page + k) there in
      let some = some_count m (run.page + k) there in
      let before = fewer_at k (omega (arith, few)) in
      omega (arith, less, some, before)

  pub fewer : len (space_in (with_run_shared v to run run.n) to).awaiting < len (space_in v to).awaiting
  fewer = let less = fewer_at run.n (omega arith) in let some = first.some in omega (arith, less, some)

  module _ (absent : (i : ℕ) → i < run.n → page_in v to (run.page + i) ≡ None) where
    chain : (k : ℕ) → k ≤ run.n → AreSharedBare from to until v (with_run_shared v to run k)
    unfolding with_run_shared
    chain zero few = Still v
    chain (suc k) few =
        let low : k < run.n = omega (arith, few) in
        let w = with_run_shared v to run k in
        let new = put_shared w to (run.page + k) (record { entry = entry_at run k; overlay = None }) in
        both v w new (chain k (omega (arith, few)))
        (Then w new (run.page + k) (omega (arith, low, under)) (least_at k low) (absent_at v to run so_far.space first absent k low)
        (subst (λ (t : LedgerView). AreSharedBare from to until t new) (sym (shared_at k low)) (Still new)))

    pub one_more : IsSharing old (with_run_shared v to run run.n) from to until
    one_more = let now = reached v to run so_far.space run.n in record {
      space = now.there;
      bare = λ page low some.
          let waits = now.waits page in
          let still : get (space_in (with_run_shared v to run run.n) to).awaiting page ≡ get (space_in v to).awaiting page = grind (arith, nat_tests, waits, some) in
          let same = now.others from page (λ e _. differs e) in
          let was = so_far.bare page low (ap is_some (sym still) ∙ some) in (
            ap (option_map (λ (e : PageEntry). e.frame)) still ∙ was.0 ∙ ap (option_map (λ (x : PageView). x.entry.frame)) (sym same),
            ap (option_and_then (λ (x : PageView). x.overlay)) same ∙ was.1,
          );
      run = both old v (with_run_shared v to run run.n) so_far.run (chain run.n (omega arith));
    }
