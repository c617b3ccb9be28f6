use Rattle.overlay_pages.proofs.Common.{true≢false, ◌≡◌, ℕ, ◌+◌, ◌*◌, ◌≤◌, ◌<◌, ◌&&◌, Bool, true, false, cond, not, List, [], ◌∷◌, Option, Some, None, IfSome, IsSome, is_some, length, refl, nat_cmp, sym, ap, subst, ◌∙◌, arith, none-some, option_and_then, option_map, option_map_or, FinMap, empty, get, get-empty, len, FRAME_UNITS, LAST_SPACE, PAGE_END, Result, OnOk, OnErr}
use Rattle.overlay_pages.proofs.Stores.{free_units}
use Rattle.overlay_pages.proofs.Books.{alike, len_low, get_viewed, Pages, Ledger, is_alone, units, class_most, same_units, Store, ledger_after, store_nothing, units_store, with_lines, map_twice, by_option, by_test, books_added, books_awaiting, books_lost, books_marked, books_page, page_added, page_awaited, page_lost, page_marked, there_cut, there_put, bare_space, cut_space, holds_space, page_in, put_awaiting, put_mark, put_space, space_in, altered_page, LedgerView, PageView, frame_at, holding_of, ledger_of, lines_of, overlay_at, NamesOnce}
use Rattle.overlay_pages.proofs.Views.{PageState, brought, with_brought, writes_frame, IsNextPage, RisesBy, entries_in, IsJoined, MemoryView, page_state, state_of, view_of, state_books, state_mark, state_page, state_page_some, state_pages, state_holds, state_zero, state_added, state_awaiting_put, state_cut_space, state_mark_put}
use Rattle.overlay_pages.proofs.Results.{either, on_ok}
use Rattle.segment_store.specs.Store as store
use Rattle.space_ledger.specs.Calls as calls

-- What calls that only read the tables answer, said of the state.

pub entry_state : (v : MemoryView) (q r : ℕ) → option_map (λ (x : PageView). x.entry) (page_in v.table q r) ≡ option_map (λ (x : PageState). x.entry) (page_in (state_of v) q r)
unfolding page_state
entry_state v q r = sym (ap (option_map (λ (x : PageState). x.entry)) (state_page v q r) ∙ map_twice (λ (x : PageState). x.entry) (page_state v.store) (λ (x : PageView). x.entry) (page_in v.table q r) (λ x e. refl))

pub absent_state : (v : MemoryView) (q r : ℕ) → None ≡ option_map (λ (x : PageView). x.entry) (page_in v.table q r) → page_in (state_of v) q r ≡ None
absent_state v q r is = by_option (page_in (state_of v) q r)
    (λ e. e)
    (λ x e. let no = is ∙ entry_state v q r ∙ ap (option_map (λ (x : PageState). x.entry)) e in cc)

pub own_state : (v : MemoryView) (q r : ℕ) → IsSome (page_in v.table q r) → option_map (λ (x : PageState). x.own) (page_in (state_of v) q r) ≡ Some (lines_of (overlay_at v.table q r))
unfolding page_state
own_state v q r there = by_option (page_in v.table q r)
    (λ none. absurd (true≢false (sym there ∙ ap is_some none)))
    (λ x found. ap (option_map (λ (y : PageState). y.own)) (state_page v q r ∙ ap (option_map (page_state v.store)) found) ∙ ap (λ (o : Option PageView). Some (lines_of (option_and_then (λ (y : PageView). y.overlay) o))) (sym found))

pub frame_of_page : (v : MemoryView) (q r : ℕ) → option_map (λ (x : PageState). x.entry.frame) (page_in (state_of v) q r) ≡ frame_at v.table q r
unfolding page_state
frame_of_page v q r =
    ap (option_map (λ (x : PageState). x.entry.frame)) (state_page v q r)
    ∙ map_twice (λ (x : PageState). x.entry.frame) (page_state v.store) (λ (x : PageView). x.entry.frame) (page_in v.table q r) (λ x e. refl)

pub overlaid_bare : (v : MemoryView) (q r : ℕ) → IsSome (page_in v.table q r) → overlay_at v.table q r ≡ None → IfSome (page_in (state_of v) q r) (λ (x : PageState). 0 < length x.own) → ⊥
overlaid_bare v q r there bare has = by_option (page_in (state_of v) q r)
    (λ e. let no = sym (ap (option_map (λ (x : PageState). x.own)) e) ∙ own_state v q r there in cc)
    (λ x e.
    omega (
      arith,
      subst (λ o. IfSome o (λ (x : PageState). 0 < length x.own)) e has,
      ap (λ (o : Option (List ℕ)). length (option_map_or (λ (l : List ℕ). l) o [])) (sym (ap (option_map (λ (x : PageState). x.own)) e) ∙ own_state v q r there ∙ ap (λ o. Some (lines_of o)) bare),
    ))

pub none_state : (v : MemoryView) (q r : ℕ) → page_in v.table q r ≡ None → page_in (state_of v) q r ≡ None
none_state v q r none = state_page v q r ∙ ap (option_map (page_state v.store)) none

pub next_state : (v : MemoryView) (q r : ℕ) (found : Option ℕ) → calls.IsNextOf v.table q r found → IsNextPage (state_of v) q r found
next_state v q r None is = λ p low. none_state v q p (is p low)
next_state v q r (Some p) is = (is.0, state_page_some v q p ∙ is.1, λ n low below. none_state v q n (is.2 n low below))

-- how a store rises
pub rises_state : (v : MemoryView) (s p : ℕ) (lines : List ℕ) (rise : ℕ) → calls.StoreRisesBy v.table s p lines rise → calls.RisesBeside v.table s p lines rise → RisesBy (state_of v) s p lines rise
rises_state v s p lines rise one both = record {
  one = (λ i. units (ledger_after (Store (state_mark v s i) s ((p, lines) ∷ [])) (state_books v i))) ∙ one ∙ ap (λ (l : Ledger). units l + rise) (sym (state_books v));
  both = λ other more differs.
      (λ i. units (ledger_after (Store (state_mark v s i) s ((p, lines) ∷ ((other, more) ∷ []))) (state_books v i))) ∙ both other more differs
      ∙ sym (λ i. units (ledger_after (Store (state_mark v s i) s ((other, more) ∷ [])) (state_books v i)) + rise);
}

-- Tables that have the same pages.

pub same_joined : (st : store.Store) (a b : LedgerView) → IsJoined (view_of st a) → b.frames ≡ a.frames → b.zero_frame ≡ a.zero_frame → ((q r : ℕ) → page_in b q r ≡ page_in a q r)
    → ((q : ℕ) → holds_space b q ≡ true → q ≤ LAST_SPACE) → units (ledger_of b) ≡ units (ledger_of a) → IsJoined (view_of st b)
same_joined st a b is frames zero pages numbers same = record {
  store = is.store;
  blocks = is.blocks;
  frames = ap (λ n. FRAME_UNITS * n) frames ∙ is.frames;
  count = ap (λ n. free_units st.blocks + n) same ∙ is.count;
  numbers = numbers;
  zero = subst (store.IsFrame st) (sym zero) is.zero;
  zeros = λ line low. ap (λ f. store.frame_line st f line) zero ∙ is.zeros line low;
  held = λ q r x there. is.held q r x (sym (pages q r) ∙ there);
  owned = λ unit segment there.
      let own = is.owned unit segment there in
      record { space = own.space; page = own.page; x = own.x; overlay = own.overlay; there = pages own.space own.page ∙ own.there; is = own.is; unit_is = own.unit_is; owner = own.owner };
}

-- What is brought: nothing where the frame is written, else lines of the overlay.

pub frame_state : (v : MemoryView) (s p : ℕ) → writes_frame (state_of v) s p ≡ (not (space_in v.table s).speculating && is_alone (ledger_of v.table) s p)
frame_state v s p = λ i. not (state_mark v s i) && is_alone (state_books v i) s p

pub brought_frame : (v : MemoryView) (s p : ℕ) (lines : List ℕ) → (not (space_in v.table s).speculating && is_alone (ledger_of v.table) s p) ≡ true → state_of v ≡ with_brought (state_of v) s p lines
unfolding with_brought
brought_frame v s p lines frame = sym (ap (λ b. cond b (state_of v) (altered_page (brought lines) (state_of v) s p)) (frame_state v s p ∙ frame))

pub brought_overlay : (v : MemoryView) (s p : ℕ) (lines : List ℕ) → (not (space_in v.table s).speculating && is_alone (ledger_of v.table) s p) ≡ false
    → with_brought (state_of v) s p lines ≡ altered_page (brought lines) (state_of v) s p
unfolding with_brought
brought_overlay v s p lines frame = ap (λ b. cond b (state_of v) (altered_page (brought lines) (state_of v) s p)) (frame_state v s p ∙ frame)

-- Spaces that come and go, marks, and tables that are copied and adopted.

pub awaiting_joined : (st : store.Store) (v : LedgerView) (s : ℕ) (awaiting : Pages) → IsJoined (view_of st v) → holds_space v s ≡ true → IsJoined (view_of st (put_awaiting v s awaiting))
unfolding put_awaiting put_space
awaiting_joined st v s awaiting is there =
    same_joined st v (put_awaiting v s awaiting) is refl refl (page_awaited v s awaiting) (λ q here. there_put v s _ q here (λ same. subst (λ n. n ≤ LAST_SPACE) (sym same) (is.numbers s there)) (is.numbers q))
    (ap units (books_awaiting holding_of v s awaiting there))

pub entries_state : (v : MemoryView) (s : ℕ) → calls.entries_of v.table s ≡ entries_in (state_of v) s
unfolding calls.entries_of entries_in page_state
entries_state v s =
    alike _ _ (λ q.
    get_viewed (λ _ (x : PageView). x.entry) (space_in v.table s).pages q
    ∙ sym (map_twice (λ (x : PageState). x.entry) (page_state v.store) (λ (x : PageView). x.entry) (get (space_in v.table s).pages q) (λ x e. refl))
    ∙ ap (option_map (λ (x : PageState). x.entry)) (sym (get_viewed (λ _ (x : PageView). page_state v.store x) (space_in v.table s).pages q) ∙ ap (λ (m : FinMap nat_cmp PageState). get m q) (sym (state_pages v s)))
    ∙ sym (get_viewed (λ _ (x : PageState). x.entry) (space_in (state_of v) s).pages q))

pub no_pages_state : (v : MemoryView) (s : ℕ) → (space_in (state_of v) s).pages ≡ empty → (space_in v.table s).pages ≡ empty
no_pages_state v s none = alike _ _ (λ q. by_option (get (space_in v.table s).pages q) (λ e. e) (λ x e.
    let there = sym (get-empty nat_cmp q) ∙ ap (λ (m : FinMap nat_cmp PageState). get m q) (sym none ∙ state_pages v s) ∙ get_viewed (λ _ (y : PageView). page_state v.store y) (space_in v.table s).pages q ∙ ap (option_map (page_state v.store)) e in
    absurd (none-some (page_state v.store x) there)) ∙ sym (get-empty nat_cmp q))

-- a page that the state hasn't isn't in the tables
pub none_back : (v : MemoryView) (q r : ℕ) → page_in (state_of v) q r ≡ None → page_in v.table q r ≡ None
none_back v q r none = by_option (page_in v.table q r)
    (λ e. e)
    (λ x e. let no = sym (state_page_some v q r ∙ ap is_some e) ∙ ap is_some none in cc)

-- What of the tables alone changes, as the owner has it: `now` is what was seen before.

module _ (st : store.Store) (v new : LedgerView) (now : MemoryView) (s : ℕ) (same : view_of st v ≡ now) (is : IsJoined (view_of st v)) where
  held_still : (b : Bool) → holds_space (state_of now) s ≡ b → holds_space v s ≡ b
  held_still b here = sym (state_holds (view_of st v) s) ∙ ap (λ (m : MemoryView). holds_space (state_of m) s) same ∙ here

  pub marked_joined : (on : Bool) → new ≡ put_mark v s on → holds_space (state_of now) s ≡ true → IsJoined (view_of st new)
  unfolding put_mark put_space
  marked_joined on is_new here =
      let there = held_still true here in
      subst (λ t. IsJoined (view_of st t)) (sym is_new)
      (same_joined st v (put_mark v s on) is refl refl (page_marked v s on) (λ q has. there_put v s _ q has (λ e. subst (λ n. n ≤ LAST_SPACE) (sym e) (is.numbers s there)) (is.numbers q))
      (ap units (books_marked holding_of v s on there)))

  pub marked_state : (on : Bool) → new ≡ put_mark v s on → state_of (view_of st new) ≡ put_mark (state_of now) s on
  marked_state on is_new = ap (λ t. state_of (view_of st t)) is_new ∙ state_mark_put st v s on ∙ ap (λ (m : MemoryView). put_mark (state_of m) s on) same

  pub adopted_joined : (pages : Pages) → new ≡ put_awaiting v s pages → holds_space (state_of now) s ≡ true → IsJoined (view_of st new)
  adopted_joined pages is_new here = subst (λ t. IsJoined (view_of st t)) (sym is_new) (awaiting_joined st v s pages is (held_still true here))

  pub adopted_state : (pages : Pages) → new ≡ put_awaiting v s pages → state_of (view_of st new) ≡ put_awaiting (state_of now) s pages
  adopted_state pages is_new = ap (λ t. state_of (view_of st t)) is_new ∙ state_awaiting_put st v s pages ∙ ap (λ (m : MemoryView). put_awaiting (state_of m) s pages) same

  pub ended_joined : new ≡ cut_space v s → holds_space (state_of now) s ≡ true → (space_in (state_of now) s).pages ≡ empty → IsJoined (view_of st new)
  unfolding cut_space
  ended_joined is_new here empty_now =
      let none = no_pages_state (view_of st v) s (ap (λ (m : MemoryView). (space_in (state_of m) s).pages) same ∙ empty_now) in
      subst (λ t. IsJoined (view_of st t)) (sym is_new)
      (same_joined st v (cut_space v s) is refl refl (page_lost v s none) (λ q has. is.numbers q (there_cut v s q has))
      (same_units (ledger_of (cut_space v s)) (ledger_of v) (books_lost holding_of v s (held_still true here) none)))

  pub ended_state : new ≡ cut_space v s → state_of (view_of st new) ≡ cut_space (state_of now) s
  ended_state is_new = ap (λ t. state_of (view_of st t)) is_new ∙ state_cut_space st v s ∙ ap (λ (m : MemoryView). cut_space (state_of m) s) same

  -- an empty space more, or want of memory
  pub added_joined : {X E : Type 0} (r : Result X E) → OnOk r (new ≡ put_space v s bare_space) → OnErr r (new ≡ v) → s ≤ LAST_SPACE → holds_space (state_of now) s ≡ false → IsJoined (view_of st new)
  unfolding put_space
  added_joined r put kept few none =
      let absent = held_still false none in
      either (IsJoined (view_of st new)) (new ≡ put_space v s bare_space) (new ≡ v) r put kept
      (λ is_new. subst (λ t. IsJoined (view_of st t)) (sym is_new)
      (same_joined st v (put_space v s bare_space) is refl refl (page_added v s absent) (λ q has. there_put v s bare_space q has (λ e. subst (λ n. n ≤ LAST_SPACE) (sym e) few) (is.numbers q))
      (same_units (ledger_of (put_space v s bare_space)) (ledger_of v) (books_added holding_of v s absent))))
      (λ is_new. subst (λ t. IsJoined (view_of st t)) (sym is_new) is)

  pub added_state : {X E : Type 0} (r : Result X E) → OnOk r (new ≡ put_space v s bare_space) → OnOk r (state_of (view_of st new) ≡ put_space (state_of now) s bare_space)
  added_state r put = on_ok r put (λ is_new. ap (λ t. state_of (view_of st t)) is_new ∙ state_added st v s ∙ ap (λ (m : MemoryView). put_space (state_of m) s bare_space) same)

  -- the entries of a space
  pub entries_few : (n : ℕ) → n ≡ len (space_in v s).pages → n ≤ PAGE_END
  unfolding page_in
  entries_few n count =
      let low = len_low PAGE_END (space_in v s).pages (λ q there. by_option (get (space_in v s).pages q) (λ none. absurd (true≢false (sym there ∙ ap is_some none))) (λ x e. (is.held s q x e).low)) in
      omega (arith, count, low)

  pub entries_once : NamesOnce v.zero_frame (calls.entries_of v s) → NamesOnce (state_of now).zero_frame (entries_in (state_of now) s)
  entries_once once = subst (λ (m : MemoryView). NamesOnce (state_of m).zero_frame (entries_in (state_of m) s)) same
      (subst (λ z. NamesOnce z (entries_in (state_of (view_of st v)) s)) (sym (state_zero (view_of st v))) (subst (NamesOnce v.zero_frame) (entries_state (view_of st v) s) once))

  -- a page that is there
  pub seen_there : (p : ℕ) → IsSome (page_in (state_of now) s p) → IsSome (page_in v s p)
  seen_there p there = sym (state_page_some (view_of st v) s p) ∙ ap (λ (m : MemoryView). is_some (page_in (state_of m) s p)) same ∙ there

  pub seen_few : (p : ℕ) (lines : List ℕ) (rise : ℕ) → IsSome (page_in (state_of now) s p) → calls.StoreRisesBy v s p lines rise → rise ≤ 16
  seen_few p lines rise there one = by_test (not (space_in v s).speculating && is_alone (ledger_of v) s p)
      (λ frame. let nothing = ap units (store_nothing (space_in v s).speculating (ledger_of v) s p lines frame) in omega (arith, one, nothing))
      (λ frame. by_option (page_in v s p)
      (λ none. absurd (true≢false (sym (seen_there p there) ∙ ap is_some none)))
      (λ x found.
      let more = units_store (space_in v s).speculating (ledger_of v) s p lines (holding_of v.zero_frame x)
      (books_page holding_of v s p ∙ ap (option_map (holding_of v.zero_frame)) found) frame in
      omega (arith, one, more, class_most (length (with_lines (lines_of x.overlay) lines)))))

  pub seen_low : (p : ℕ) → IsSome (page_in (state_of now) s p) → p < PAGE_END
  seen_low p there = by_option (page_in v s p)
      (λ none. absurd (true≢false (sym (seen_there p there) ∙ ap is_some none)))
      (λ x found. (is.held s p x found).low)
