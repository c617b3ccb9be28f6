use Rattle.overlay_pages.proofs.Common.{◌≡◌, ℕ, ◌+◌, ◌<◌, true, Option, Some, None, length, refl, option_map, ap, subst, ◌∙◌, arith, same_Some, PAGE_END}
use Rattle.overlay_pages.proofs.Stores.{AreSettled, free_units, Entry, Store, IsFrame, KeepsFrames, block_of}
use Rattle.overlay_pages.proofs.Books.{is_unused, class, units, class_none, frame_for, units_new, without_absent, books_page, books_put_page, books_spaces, holds_space, page_in, put_page, set_page, PageView, holding_of, ledger_of, lines_of, origin_of}
use Rattle.overlay_pages.proofs.Views.{IsJoined, MemoryView, page_state, state_of, view_of}
use Rattle.overlay_pages.proofs.Steps.{Segments, frame_still, segment_still, segments_bare, stepped}

-- A page that comes where none is.

-- What the store does for it: it keeps all segments and frames, and has a segment for the page where its overlay is.
pub record HasPlaceFor (m : MemoryView) (new : Store) (s p : ℕ) (o : Option Entry) : Type 0 where
  pub segments : Segments AreSettled m.store new s p None o
  pub frames : KeepsFrames m.store new
  pub free : free_units new.blocks + class (length (lines_of o)) ≡ free_units m.store.blocks

-- nothing, for a page without an overlay
pub place_for_bare : (m : MemoryView) (s p : ℕ) → IsJoined m → HasPlaceFor m m.store s p None
place_for_bare m s p is = record {
  segments = segments_bare m.store m.store s p refl (λ unit segment there. segment_still m.store (block_of unit segment)) is.blocks refl is.store;
  frames = λ frame f. frame_still m.store frame f;
  free = omega (arith, class_none);
}

-- The page comes on a frame that is taken and costs no units.
pub came : (m : MemoryView) (new : Store) (s p : ℕ) (x : PageView) → IsJoined m → holds_space m.table s ≡ true → p < PAGE_END → page_in m.table s p ≡ None → IsFrame m.store x.entry.frame
    → frame_for (is_unused (ledger_of m.table) (origin_of m.table.zero_frame x.entry.frame)) ≡ 0 → HasPlaceFor m new s p x.overlay
    → IsJoined (view_of new (put_page m.table s p x)) × (state_of (view_of new (put_page m.table s p x)) ≡ put_page (state_of m) s p (page_state new x))
unfolding set_page
came m new s p x is there low absent frame known so = stepped m (view_of new (put_page m.table s p x)) s p None (Some x) is (record {
  there = there;
  low = low;
  was = absent;
  table_is = refl;
  segments = so.segments;
  frames = λ frame f _. so.frames frame f;
  frame = λ y same. subst (λ (z : PageView). IsFrame new z.entry.frame) (same_Some x y same) (so.frames x.entry.frame frame).stays;
  count = omega (arith, is.count, units_now, so.free, so.segments.whole);
})
  where
    units_now : units (ledger_of (put_page m.table s p x)) ≡ units (ledger_of m.table) + class (length (lines_of x.overlay))
    units_now =
        let without = without_absent (ledger_of m.table) s p (books_spaces holding_of m.table s ∙ there) (books_page holding_of m.table s p ∙ ap (option_map (holding_of m.table.zero_frame)) absent) in
        omega (arith, ap units (books_put_page holding_of m.table s p x), units_new (ledger_of m.table) s p (holding_of m.table.zero_frame x) without, known)
