use Rattle.space_ledger.proofs.Common.{Option, subst, ◌+◌, ◌*◌, ◌≤◌, empty, length, FRAME_UNITS, LAST_SPACE, PAGE_LINES, ◌≡◌, ℕ, ◌<◌, ◌^◌, None, Some, IsSome, false, nat_cmp, len, len-empty, get, option_and_then, option_map, is_some, sym, ap, ◌∙◌, arith}
use Rattle.space_ledger.proofs.Pages.{get_viewed, IsNextRun, Pages, PageRun, Entry, holds, overlay_page}
use Rattle.space_ledger.proofs.Views.{AwaitsRun, entries_of, page_of, overlaid_pages, ledger_of, Inside, LedgerView, OverlaidSpace, PageView, SpaceView, page_in, space_in, AreTables, seen}
use Rattle.space_ledger.proofs.Seen.{absent_is, awaiting_is, empty_in, entries_is, entry_at, next_is, next_is_overlaid, room_in, none_placed, frames_is, has_is, len_is, low_is, mark_is, no_page_is, number_is, overlay_is, shown_at, shows, some_at, space_none, zero_is}
use Rattle.space_ledger.proofs.Counting.{is_sound}
use Rattle.space_ledger.proofs.Parts.{no_page}

-- What calls that only read the tables answer, in the shape of their clauses.

module _ (t : Inside) (v : LedgerView) (is : seen t ≡ v) (own : AreTables t) where
  pub no_entry_law : (s : ℕ) → None ≡ get t.spaces s → (p : ℕ) → None ≡ option_map (λ (y : PageView). y.entry) (page_in v s p)
  no_entry_law s at p = sym (ap (option_map (λ (y : PageView). y.entry)) (no_page_is is own s p at))

  pub no_mark_law : (s : ℕ) → None ≡ get t.spaces s → false ≡ (space_in v s).speculating
  no_mark_law s at = sym (ap (λ (x : SpaceView). x.speculating) (space_none is own s at))

  pub no_len_law : (s : ℕ) → None ≡ get t.spaces s → 0 ≡ len (space_in v s).pages
  no_len_law s at = sym (ap (λ (x : SpaceView). len x.pages) (space_none is own s at) ∙ len-empty nat_cmp PageView)

  pub overlay_law : (s p n : ℕ) → IsSome (page_in v s p) → n ≡ overlay_page s p → get t.overlays.entries n ≡ option_and_then (λ (x : PageView). x.overlay) (page_in v s p)
  overlay_law s p n there name = ap (get t.overlays.entries) name ∙ overlay_is is own s p there

  pub range_law : (s p : ℕ) → IsSome (page_in v s p) → (s < 2 ^ 15) × (p < 2 ^ 26)
  range_law s p there = let number = number_is is own s p there in let low = low_is is own s p there in (omega (arith, number), omega (arith, low))

  pub shown_law : (s : ℕ) (x : OverlaidSpace) → Some x ≡ get t.spaces s → (p : ℕ) → IsSome (page_in v s p) → holds x.overlaid p ≡ is_some (option_and_then (λ (y : PageView). y.overlay) (page_in v s p))
  shown_law s x at p there = (shown_at is own s x at p there).1

  pub no_awaiting_law : (s : ℕ) → None ≡ get t.spaces s → (space_in v s).awaiting ≡ empty
  no_awaiting_law s at = ap (λ (x : SpaceView). x.awaiting) (space_none is own s at)

  -- and what is true of every view
  pub few_law : len v.spaces ≤ LAST_SPACE + 1
  few_law = (is_sound (shows is own)).few

  pub most_law : overlaid_pages (ledger_of v) ≤ FRAME_UNITS * v.frames
  most_law = (is_sound (shows is own)).most

  pub lines_law : (s p : ℕ) (x : PageView) (o : Entry) → page_in v s p ≡ Some x → x.overlay ≡ Some o → (0 < length o.bits) × (length o.bits ≤ PAGE_LINES)
  lines_law = (is_sound (shows is own)).lines

  pub no_entries_law : (s : ℕ) → None ≡ get t.spaces s → (p : ℕ) → get (entries_of v s) p ≡ None
  unfolding entries_of
  no_entries_law s at p = get_viewed (λ _ (x : PageView). x.entry) (space_in v s).pages p ∙ ap (option_map (λ (x : PageView). x.entry)) (sym (page_of v s p) ∙ no_page_is is own s p at)

  module _ (s : ℕ) (x : OverlaidSpace) (at : Some x ≡ get t.spaces s) where
    pub first_run_law : (until : ℕ) (r : Option PageRun) → AwaitsRun x.table.awaiting until r → AwaitsRun (space_in v s).awaiting until r
    first_run_law until r = subst (λ m. AwaitsRun m until r) (sym (awaiting_is is own s x at))

    pub run_law : (p : ℕ) (r : Option PageRun) → IsNextRun x.table.pages p r → IsNextRun (entries_of v s) p r
    run_law p r = subst (λ (m : Pages). IsNextRun m p r) (entries_is is own s x at)

pub ruleset reads = (no_entries_law, first_run_law, run_law, next_is, next_is_overlaid, room_in, none_placed, few_law, most_law, lines_law, no_awaiting_law, no_page, zero_is, absent_is, awaiting_is, empty_in, entry_at, frames_is, has_is, len_is, mark_is, no_page_is, some_at, no_entry_law, no_mark_law, no_len_law, overlay_law, range_law, shown_law)
