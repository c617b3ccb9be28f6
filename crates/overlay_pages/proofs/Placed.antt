use Rattle.overlay_pages.proofs.Common.{◌≡◌, ℕ, zero, suc, ◌+◌, ◌*◌, ◌<◌, ◌||◌, true, false, cond, nat_eq, IsSome, List, [], Option, Some, None, is_some, replicate, slice_index_or, refl, true≢false, option_map, nat_cmp, sym, ap, subst, ◌∙◌, arith, inl, nat_tests, get_or-replicate, FinMap, empty, get, get-empty, FRAME_UNITS, PAGE_LINES, or_parts, none-some}
use Rattle.overlay_pages.proofs.Stores.{AreSettled, free_at, free_frames, free_units, units_in, HasRoom, line_of, zero_lines, Segment, IsStore, Store, IsFrame, frame_line, segment_at, IsEmptyStore, frame_inside}
use Rattle.overlay_pages.proofs.Books.{PageEntry, Ledger, all_holdings, has_origin, holding_at, is_alone, is_unused, without_page, units, units_of, class_none, no_holdings, alone_is, frame_for, no_units, units_new, origin_with, without_absent, books_empty, books_page, books_put_page, books_spaces, cut_over, page_absent, page_over, cut_page, holds_space, page_in, put_page, put_pages, altered_page, mapped, mapped_none, LedgerView, SpaceView, holding_of, ledger_of, with_zero_pages, changed_there, origin_of, by_option}
use Rattle.overlay_pages.proofs.Views.{bytes_of_line, zero_line, zero_page, PageState, State, books, held_page, IsNewFrame, IsPlaced, whole_page, with_zeros, IsEmptyState, IsJoined, MemoryView, page_state, state_of, view_of, discarded}
use Rattle.overlay_pages.proofs.NewFrames.{new_still}

-- A page that was dropped and goes.

pub cut_altered : (v now : MemoryView) (s p : ℕ) (mid last : State) → v ≡ now → IsSome (page_in (state_of now) s p) → mid ≡ altered_page discarded (state_of v) s p → last ≡ cut_page mid s p
    → last ≡ cut_page (state_of now) s p
cut_altered v now s p mid last same there mid_is last_is = by_option (page_in (state_of now) s p)
    (λ none. absurd (true≢false (sym there ∙ ap is_some none)))
    (λ y found. last_is ∙ ap (λ st. cut_page st s p) (mid_is ∙ ap (λ (m : MemoryView). altered_page discarded (state_of m) s p) same ∙ changed_there discarded (state_of now) s p y found) ∙ cut_over (state_of now) s p (discarded y))

-- A page that was mapped and gets a frame.

pub one_zero : (v : LedgerView) (s p : ℕ) (entry : PageEntry) → with_zero_pages v s p 1 entry ≡ put_page v s p (record { entry = entry; overlay = None })
unfolding with_zero_pages put_pages
one_zero v s p entry = refl

pub one_zero_state : (st : State) (s p : ℕ) (entry : PageEntry) → with_zeros st s p 1 entry ≡ put_page st s p (whole_page entry zero_page)
unfolding with_zeros put_pages
one_zero_state st s p entry = refl

pub origin_none : (z f : ℕ) → f ≡ z → origin_of z f ≡ 0
origin_none z f same = let yes_ : nat_eq f z ≡ true = grind (arith, nat_tests, same) in ap (λ b. cond b 0 (f + 1)) yes_

origin_some : (z f : ℕ) → (f ≡ z → ⊥) → origin_of z f ≡ f + 1
origin_some z f other = let no_ : nat_eq f z ≡ false = grind (arith, nat_tests, other) in ap (λ b. cond b 0 (f + 1)) no_

-- a page on the zero frame isn't alone
pub zero_shared : (st : State) (s p : ℕ) (y : PageState) → page_in st s p ≡ Some y → y.entry.frame ≡ st.zero_frame → is_alone (books st) s p ≡ false
unfolding is_unused
zero_shared st s p y there zero_is =
    alone_is (books st) s p (held_page st.zero_frame y) (books_page held_page st s p ∙ ap (option_map (held_page st.zero_frame)) there)
    ∙ ap (λ o. is_unused (without_page (books st) s p) o) (origin_none st.zero_frame y.entry.frame zero_is)

module _ (st : State) (s p : ℕ) (entry : PageEntry) (there : holds_space st s ≡ true) (absent : page_in st s p ≡ None) (zero_is : entry.frame ≡ st.zero_frame) where
  abbrev with_zero_page : State
  with_zero_page = put_page st s p (whole_page entry zero_page)

  not_held : holding_at (books st) s p ≡ None
  not_held = books_page held_page st s p ∙ ap (option_map (held_page st.zero_frame)) absent

  without : without_page (books st) s p ≡ books st
  without = without_absent (books st) s p (books_spaces held_page st s ∙ there) not_held

  new_before : (frame : ℕ) → IsNewFrame with_zero_page frame → IsNewFrame st frame
  new_before frame fresh = new_still st s p (whole_page entry zero_page) frame (λ none.
      (or_parts (nat_eq (origin_of st.zero_frame entry.frame) (frame + 1)) (has_origin (books st) (frame + 1))
      (ap (λ (l : Ledger). nat_eq (origin_of st.zero_frame entry.frame) (frame + 1) || has_origin l (frame + 1)) (sym without)
      ∙ sym (origin_with (books st) s p (held_page st.zero_frame (whole_page entry zero_page)) (frame + 1))
      ∙ ap (λ (l : Ledger). has_origin l (frame + 1)) (sym (books_put_page held_page st s p (whole_page entry zero_page))) ∙ none)).1) fresh

  pub placed_before : (new : State) (at : ℕ → PageState) → IsPlaced with_zero_page new s p at → IsPlaced st new s p at
  placed_before new at is = record { frame = is.frame; fresh = new_before is.frame is.fresh; placed = is.placed ∙ page_over st s p (whole_page entry zero_page) (at is.frame) }

  pub placed_units : (new : State) (lines : List (List ℕ)) (perms : PageEntry) → IsPlaced st new s p (λ frame. whole_page (record { perms = perms.perms; frame = frame }) lines)
      → units (books new) ≡ units (books st) + FRAME_UNITS
  unfolding frame_for
  placed_units new lines perms is =
      let x = whole_page (record { perms = perms.perms; frame = is.frame }) lines in
      let now = ap books is.placed ∙ books_put_page held_page st s p x in
      let more = units_new (books st) s p (held_page st.zero_frame x) without in
      let one : frame_for (is_unused (books st) (origin_of st.zero_frame is.frame)) ≡ 16 = ap (λ o. frame_for (is_unused (books st) o)) (origin_some st.zero_frame is.frame is.fresh.other) ∙ ap frame_for is.fresh.unused in
      omega (arith, ap units now, more, one, class_none)

-- A new memory.

frames_units : (n u : ℕ) → (units_in (free_frames u n) ≡ 16 * n) × (free_units (free_frames u n) ≡ 16 * n)
frames_units zero u = (refl, refl)
frames_units (suc n) u = let rest = frames_units n (u + 16) in (omega (arith, rest.0), omega (arith, rest.1))

pub frames_room : (n u : ℕ) → 0 < n → HasRoom (free_frames u n) 4
frames_room zero u some = absurd (omega (arith, some))
frames_room (suc n) u some = (free_at u 4, (inl refl, refl, omega arith))

line_is : zero_line ≡ replicate 64 0
unfolding zero_line bytes_of_line
line_is = refl

zeros_at : (n i : ℕ) → i < n → line_of (zero_lines n) i ≡ replicate 64 0
unfolding zero_lines
zeros_at n i low = get_or-replicate n i (replicate 64 0) [] low

module _ (empty_store taken : Store) (table : LedgerView) (frames frame : ℕ) (is : IsEmptyStore frames empty_store) (frame_is : IsFrame taken frame) (lines : taken.lines ≡ empty_store.lines)
    (same : taken.segments ≡ empty_store.segments) (free : free_units taken.blocks + FRAME_UNITS ≡ free_units empty_store.blocks) (whole : units_in taken.blocks ≡ units_in empty_store.blocks) (store : IsStore taken)
    (spaces : table.spaces ≡ empty) (frames_are : table.frames ≡ frames) (zero_is : table.zero_frame ≡ frame) where
  whole_is : units_in taken.blocks ≡ 16 * frames
  whole_is = whole ∙ ap units_in is.blocks ∙ (frames_units frames 0).0

  no_space : (s : ℕ) → get table.spaces s ≡ None
  no_space s = ap (λ (m : FinMap nat_cmp SpaceView). get m s) spaces ∙ get-empty nat_cmp s

  no_page : (s p : ℕ) → page_in table s p ≡ None
  no_page s p = page_absent table s p (no_space s)

  no_segment : (unit : ℕ) (segment : Segment) → segment_at taken unit ≡ Some segment → ⊥
  no_segment unit segment there = none-some segment (sym (ap (λ l. slice_index_or l unit None) (same ∙ is.segments) ∙ none (FRAME_UNITS * frames) unit) ∙ there)
    where
      no_one : Option Segment
      no_one = None

      none : (n i : ℕ) → slice_index_or (replicate n no_one) i None ≡ None
      none zero i = refl
      none (suc n) zero = refl
      none (suc n) (suc i) = none n i

  units_are : units (ledger_of table) ≡ 16
  unfolding units
  units_are = ap (λ (l : Ledger). units_of (all_holdings l)) (books_empty holding_of table spaces) ∙ ap units_of no_holdings ∙ no_units

  pub made_joined : AreSettled taken.blocks → IsJoined (view_of taken table)
  made_joined settled = record {
    store = store;
    blocks = settled;
    frames = omega (arith, whole_is, frames_are);
    count = omega (arith, whole_is, units_are, free, ap free_units is.blocks, (frames_units frames 0).1);
    numbers = λ s there. let no_ = sym there ∙ ap is_some (no_space s) in absurd (true≢false no_);
    zero = subst (IsFrame taken) (sym zero_is) frame_is;
    zeros = λ i low. ap (λ f. frame_line taken f i) zero_is ∙ ap (λ l. line_of l (64 * frame + i)) (lines ∙ is.lines) ∙ zeros_at (PAGE_LINES * (frames + 1)) (64 * frame + i) (omega (arith, low, whole_is, frame_inside taken store frame frame_is)) ∙ sym line_is;
    held = λ s p x there. absurd (none-some x (sym (no_page s p) ∙ there));
    owned = λ unit segment there. absurd (no_segment unit segment there);
  }

  pub made_state : IsEmptyState frames (state_of (view_of taken table))
  unfolding state_of mapped
  made_state = record {
    spaces = mapped_none (λ _ _ x. page_state taken x) table spaces;
    count = frames_are;
    zero = omega (arith, zero_is, whole_is, frame_inside taken store frame frame_is);
  }

pub made_frame : (empty_store taken : Store) (frames frame : ℕ) → IsEmptyStore frames empty_store → IsFrame taken frame → units_in taken.blocks ≡ units_in empty_store.blocks → IsStore taken → frame < frames
made_frame empty_store taken frames frame is f whole store = omega (arith, whole, ap units_in is.blocks, (frames_units frames 0).0, frame_inside taken store frame f)
