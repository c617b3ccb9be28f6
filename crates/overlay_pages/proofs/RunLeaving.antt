use Rattle.overlay_pages.proofs.Common.{option_and_then, ◌≡◌, ℕ, zero, suc, ◌+◌, ◌≤◌, ◌<◌, Bool, true, false, Some, None, is_some, refl, sym, ap, subst, ◌∙◌, arith}
use Rattle.overlay_pages.proofs.Stores.{Store, IsFrame, frame_inside}
use Rattle.overlay_pages.proofs.Books.{entry_at, PageEntry, PageRun, is_unused, after_cut, are_cut, cut_page, cut_pages, holds_space, page_in, LedgerView, PageView, ledger_of, origin_of, GivesNothingUp, GivesUpAtLast, IsBareRun, given_up, map_from}
use Rattle.overlay_pages.proofs.Views.{State, IsJoined, state_of, view_of}
use Rattle.overlay_pages.proofs.Leaving.{LeavesStore, is_given, is_left, leaves_none, left_out}

-- Pages of a run that go: the tables are without all of them at once, and the store follows page by page, as if each went only then.

pub record HasLeft (old now : Store) (v : LedgerView) (s : ℕ) (run : PageRun) (k : ℕ) : Type 0 where
  pub joined : IsJoined (view_of now (cut_pages v s run.page k))
  pub state : state_of (view_of now (cut_pages v s run.page k)) ≡ cut_pages (state_of (view_of old v)) s run.page k

-- a page of the run
record IsOne (v : LedgerView) (s p : ℕ) (entry : PageEntry) : Type 0 where
  pub x : PageView
  pub there : page_in v s p ≡ Some x
  pub is : entry ≡ x.entry

module _ (old : Store) (v : LedgerView) (s : ℕ) (run : PageRun) (is : IsJoined (view_of old v)) (has : holds_space v s ≡ true) (bare : IsBareRun v s run) where
  pub none_left : HasLeft old old v s run 0
  unfolding cut_pages
  none_left = record { joined = is; state = refl }

  page : (k : ℕ) → k < run.n → IsOne v s (run.page + k) (entry_at run k)
  page k low = map_from (λ (x : PageView). x.entry) (page_in v s (run.page + k)) (entry_at run k) (bare.has k low) (λ x there same. record { x = x; there = there; is = sym same })

  pub frame_taken : (now : Store) (k : ℕ) → k < run.n → HasLeft old now v s run k → (entry : PageEntry) → entry ≡ entry_at run k → IsFrame now entry.frame
  frame_taken now k low so_far entry entry_is =
      subst (λ (e : PageEntry). IsFrame now e.frame) (sym (entry_is ∙ (page k low).is))
      (so_far.joined.held s (run.page + k) (page k low).x (after_cut k run.page v s has ∙ (page k low).there)).frame

  pub frame_below : (now : Store) (k : ℕ) → k < run.n → HasLeft old now v s run k → (entry : PageEntry) → entry ≡ entry_at run k
      → (new : LedgerView) → new ≡ cut_pages v s run.page run.n → entry.frame < new.frames
  frame_below now k low so_far entry entry_is new gone =
      let inside = frame_inside now so_far.joined.store entry.frame (frame_taken now k low so_far entry entry_is) in
      let count = so_far.joined.frames in
      let then = (are_cut k run.page v s has).keeps.frames in
      let last = ap (λ (w : LedgerView). w.frames) gone ∙ (are_cut run.n run.page v s has).keeps.frames in
      omega (arith, inside, count, then, last)

  module _ (new : LedgerView) (given : GivesUpAtLast v new s run) where
    one_more : (k : ℕ) (low : k < run.n) (now next : Store) → HasLeft old now v s run k → (left : Bool) → left ≡ is_left new (page k low).x
        → LeavesStore now next (page k low).x.entry.frame left → HasLeft old next v s run (suc k)
    unfolding cut_pages
    one_more k low now next so_far left left_is leaves =
        let w = cut_pages v s run.page k in
        let x = (page k low).x in
        let there = after_cut k run.page v s has ∙ (page k low).there in
        let over : x.overlay ≡ None = ap (option_and_then (λ (y : PageView). y.overlay)) (sym (page k low).there) ∙ bare.bare k low in
        let then = cut_page w s (run.page + k) in
        let at_last = given k low ∙ ap (given_up new) (page k low).there in
        let left_then : left ≡ is_left then x =
        left_is ∙ sym (is_given new x) ∙ ap is_some (sym at_last ∙ ap (given_up then) (page k low).there) ∙ is_given then x in
        let all = left_out (view_of now w) next then s (run.page + k) x left so_far.joined there over refl left_then leaves in
        record { joined = all.0; state = all.1 ∙ ap (λ (m : State). cut_page m s (run.page + k)) so_far.state }

    -- a frame that nothing names is given back, and one that is named stays
    module _ (k : ℕ) (low : k < run.n) (now : Store) (so_far : HasLeft old now v s run k) (entry : PageEntry) (entry_is : entry ≡ entry_at run k)
        (unused : Bool) (unused_is : unused ≡ is_unused (ledger_of new) (origin_of new.zero_frame entry.frame)) where
      same : entry.frame ≡ (page k low).x.entry.frame
      same = ap (λ (e : PageEntry). e.frame) (entry_is ∙ (page k low).is)

      one_next : (next : Store) (b : Bool) → unused ≡ b → LeavesStore now next entry.frame b → HasLeft old next v s run (k + 1)
      one_next next b is_b leaves =
          let last : suc k ≡ k + 1 = omega arith in
          let left = sym is_b ∙ unused_is ∙ ap (λ f. is_unused (ledger_of new) (origin_of new.zero_frame f)) same in
          subst (HasLeft old next v s run) last (one_more k low now next so_far b left (subst (λ f. LeavesStore now next f b) same leaves))

      pub one_given : (next : Store) → unused ≡ true → LeavesStore now next entry.frame true → HasLeft old next v s run (k + 1)
      one_given next yes_unused leaves = one_next next true yes_unused leaves

      pub one_kept : unused ≡ false → HasLeft old now v s run (k + 1)
      one_kept not_unused = one_next now false not_unused (leaves_none now entry.frame so_far.joined.store)

    -- where nothing is given up, the store stays as it is
    some_left : GivesNothingUp v new s run → (k : ℕ) → k ≤ run.n → HasLeft old old v s run k
    some_left nothing zero low = none_left
    some_left nothing (suc k) low =
        let below : k < run.n = omega (arith, low) in
        let x = (page k below).x in
        let none = ap is_some (sym (nothing k below) ∙ ap (given_up new) (page k below).there) ∙ is_given new x in
        one_more k below old old (some_left nothing k (omega (arith, low))) false none (leaves_none old x.entry.frame is.store)

    pub all_left : GivesNothingUp v new s run → new ≡ cut_pages v s run.page run.n → IsJoined (view_of old new) × (state_of (view_of old new) ≡ cut_pages (state_of (view_of old v)) s run.page run.n)
    all_left nothing gone =
        let all = some_left nothing run.n (omega arith) in (subst (λ (t : LedgerView). IsJoined (view_of old t)) (sym gone) all.joined, ap (λ (t : LedgerView). state_of (view_of old t)) gone ∙ all.state)
