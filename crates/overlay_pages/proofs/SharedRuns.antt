use Rattle.overlay_pages.proofs.Common.{true≢false, ◌≡◌, ℕ, true, false, nat_lt, length, Option, None, IsSome, is_some, refl, sym, ap, subst, ◌∙◌, arith, option_and_then, option_map, option_map_or, nat_tests, get}
use Rattle.overlay_pages.proofs.Stores.{Store, Entry}
use Rattle.overlay_pages.proofs.Books.{Pages, PageEntry, has_own, by_option, holds_space, page_in, space_in, IsLeast, AreBareBelow, AreSharedBare, Still, Then, LedgerView, PageView, frame_at, frame_awaiting, lines_of, overlay_at, with_page_shared}
use Rattle.overlay_pages.proofs.Views.{PageState, State, books, with_shared, AreShared, AwaitBare, IsJoined, MemoryView, page_state, state_of, view_of, state_page_there, state_awaiting, state_holds, state_page_some}
use Rattle.overlay_pages.specs.Calls.AreShared.{Still as unchanged, Then as one_shared}
use Rattle.overlay_pages.proofs.Coming.{place_for_bare}
use Rattle.overlay_pages.proofs.SharedPages.{awaits, bare_shared, shared_table, shares}
use Rattle.overlay_pages.proofs.Tables.{frame_of_page}
use Rattle.overlay_pages.specs.SharedLaws.{from_there, own_in, stays_there, still_bare}

-- Pages without own lines that are shared one after the other.

-- What the tables say of it.
module _ (m : MemoryView) (joined : IsJoined m) (from to : ℕ) where
  pub bare_at : (page : ℕ) → has_own (books (state_of m)) from page ≡ false → overlay_at m.table from page ≡ None
  unfolding page_state
  bare_at page none = by_option (page_in m.table from page)
      (λ is. ap (option_and_then (λ (x : PageView). x.overlay)) is)
      (λ x is. ap (option_and_then (λ (x : PageView). x.overlay)) is ∙ by_option x.overlay (λ bare. bare) (λ e over.
      let some = (joined.held from page x is).lined e over in
      let yes : nat_lt 0 (length e.bits) ≡ true = grind (arith, nat_tests) in
      let own = own_in (state_of m) from page ∙ ap (λ (o : Option PageState). option_map_or (λ (y : PageState). nat_lt 0 (length y.own)) o false) (state_page_there m from page x is) in
      absurd (true≢false (sym yes ∙ ap (λ (o : Option Entry). nat_lt 0 (length (lines_of o))) (sym over) ∙ sym own ∙ none))))

-- One page without an overlay.
pub bare_step : (store : Store) (v new : LedgerView) (from to page : ℕ) → IsJoined (view_of store v) → IsSome (page_in v from page) → overlay_at v from page ≡ None
    → frame_awaiting v to page ≡ frame_at v from page → holds_space v to ≡ true → page_in v to page ≡ None → new ≡ with_page_shared v from to page None
    → IsJoined (view_of store new) × (state_of (view_of store new) ≡ with_shared (state_of (view_of store v)) from to page)
bare_step store v new from to page joined there bare frame space absent is_new =
    let w = awaits v from to page None there bare frame in
    let table = is_new ∙ shared_table v from to page None None w in
    let all = shares (view_of store v) store from to page None None joined w space absent (place_for_bare (view_of store v) to page joined) (bare_shared store w.x w.entry w.is w.frame_is) in
    (subst (λ (t : LedgerView). IsJoined (view_of store t)) (sym table) all.0, ap (λ (t : LedgerView). state_of (view_of store t)) table ∙ all.1)

-- The pages that the ledger has shared, one after the other.
module _ (store : Store) (from to until : ℕ) (differs : from ≡ to → ⊥) where
  module _ (v : LedgerView) (joined : IsJoined (view_of store v)) (bare : AwaitBare (state_of (view_of store v)) from to until) where
    waits_in : (page : ℕ) → IsSome (get (space_in v to).awaiting page) → IsSome (get (space_in (state_of (view_of store v)) to).awaiting page)
    waits_in page some = ap (λ (t : Pages). is_some (get t page)) (state_awaiting (view_of store v) to) ∙ some

    -- each page that awaits below is bare in the ledger
    pub bare_below : AreBareBelow v from to until
    bare_below page low some =
        let was = bare page low (waits_in page some) in (
          sym (ap (λ (t : Pages). option_map (λ (e : PageEntry). e.frame) (get t page)) (state_awaiting (view_of store v) to)) ∙ was.0 ∙ frame_of_page (view_of store v) from page,
          bare_at (view_of store v) joined from to page was.1,
        )

  pub shared_all : (old new : LedgerView) → AreSharedBare from to until old new → IsJoined (view_of store old) → holds_space old to ≡ true
      → AwaitBare (state_of (view_of store old)) from to until
      → IsJoined (view_of store new) × AreShared from to until (state_of (view_of store old)) (state_of (view_of store new))
  shared_all _ _ (Still v) joined space bare = (joined, unchanged (state_of (view_of store v)))
  shared_all _ _ (Then old new page low least absent rest) joined space bare =
      let s = state_of (view_of store old) in
      let waits = waits_in old joined bare page least.there in
      let was = bare page low waits in
      let here = bare_below old joined bare page low least.there in
      let there = sym (state_page_some (view_of store old) from page) ∙ from_there s from to page differs waits was.0 in
      let step = bare_step store old (with_page_shared old from to page None) from to page joined there here.1 here.0 space absent refl in
      let next : LedgerView = with_page_shared old from to page None in
      let more = shared_all next new rest step.0
      (sym (state_holds (view_of store next) to) ∙ ap (λ (t : State). holds_space t to) step.1 ∙ stays_there s from to page differs waits was.0)
      (subst (λ (t : State). AwaitBare t from to until) (sym step.1) (still_bare s from to page differs waits was.0 until bare)) in (
        more.0,
        one_shared s (state_of (view_of store new)) page low (subst (λ (t : Pages). IsLeast t page) (sym (state_awaiting (view_of store old) to)) least)
            (subst (λ (t : State). AreShared from to until t (state_of (view_of store new))) step.1 more.1),
      )
