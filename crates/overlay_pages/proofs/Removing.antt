use Rattle.overlay_pages.proofs.Common.{option_and_then, option_map, ◌≡◌, ℕ, zero, suc, ◌+◌, ◌<◌, ◌≤◌, Some, None, is_some, sym, ap, subst, ◌∙◌, arith, PAGE_END, true≢false}
use Rattle.overlay_pages.proofs.Books.{Ledger, holding_at, books_page, AreMapped, page_in, LedgerView, PageView, frame_at, holding_of, ledger_of, lines_of, overlay_at, PageRun, map_some, by_option, map_from}
use Rattle.overlay_pages.proofs.Views.{AreZeros, zero_holding, IsJoined, MemoryView, state_of, state_books, state_page_some}
use Rattle.space_ledger.specs.Calls as calls
use Rattle.overlay_pages.proofs.Placed.{origin_none}

-- Pages on the zero frame, without own lines: told of the tables, they are such pages of the state.

abbrev IsZeroPage : LedgerView → ℕ → ℕ → Type 0
IsZeroPage v s p = (frame_at v s p ≡ Some v.zero_frame) × (overlay_at v s p ≡ None)

held_zero : (v : LedgerView) (s p : ℕ) → IsZeroPage v s p → holding_at (ledger_of v) s p ≡ Some zero_holding
held_zero v s p is = map_from (λ (x : PageView). x.entry.frame) (page_in v s p) v.zero_frame is.0 (λ x there same.
    let origin = origin_none v.zero_frame x.entry.frame same in
    let bare : x.overlay ≡ None = sym (ap (option_and_then (λ (y : PageView). y.overlay)) there) ∙ is.1 in
    books_page holding_of v s p ∙ ap (option_map (holding_of v.zero_frame)) there ∙ (λ i. Some (record { origin = origin i; own = lines_of (bare i) })))

pub zeros_state : (view : MemoryView) (s from n : ℕ) → calls.AreBareOnZero view.table s from n → AreZeros (state_of view) s from n
zeros_state view s from n zeros i less = ap (λ (l : Ledger). holding_at l s (from + i)) (state_books view) ∙ held_zero view.table s (from + i) (zeros i less)

-- pages go no further than pages may
pub mapped_low : (view : MemoryView) (s from n : ℕ) → IsJoined view → AreMapped view.table s from n → 0 < n → from + n ≤ PAGE_END
mapped_low view s from zero is there some = absurd (omega (arith, some))
mapped_low view s from (suc k) is there some = by_option (page_in view.table s (from + k))
    (λ none. absurd (true≢false (sym (there k (omega arith)) ∙ ap is_some none)))
    (λ x found. let low = (is.held s (from + k) x found).low in omega (arith, low))

pub run_low : (view : MemoryView) (s page : ℕ) (run : PageRun) → IsJoined view → calls.IsBareRun view.table s run → run.page ≡ page → 0 < run.n → page + run.n ≤ PAGE_END
run_low view s page run is bare same =
    subst (λ p. 0 < run.n → p + run.n ≤ PAGE_END) same
    (mapped_low view s run.page run.n is (λ i less. sym (map_some (λ (x : PageView). x.entry) (page_in view.table s (run.page + i))) ∙ ap is_some (bare.has i less)))

pub zeros_low : (view : MemoryView) (s from n : ℕ) → IsJoined view → calls.AreBareOnZero view.table s from n → 0 < n → from + n ≤ PAGE_END
zeros_low view s from n is zeros = mapped_low view s from n is (λ i less. sym (map_some (λ (x : PageView). x.entry.frame) (page_in view.table s (from + i))) ∙ ap is_some (zeros i less).0)

-- pages of the tables are pages of the state
pub mapped_state : (view : MemoryView) (s from n : ℕ) → AreMapped view.table s from n → AreMapped (state_of view) s from n
mapped_state view s from n there i less = state_page_some view s (from + i) ∙ there i less
