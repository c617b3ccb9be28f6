use Rattle.std.proofs.Common.{◌≡◌, ℕ, ◌<◌, List, length, Option, Some, None, sym, ap, subst, ◌∙◌, refl}
use Rattle.std.specs.Option.{option_map}
use Rattle.std.proofs.lemmas.List.FromFn.{length-map-range_with_len}
use Rattle.sizes.specs.declared.TheConstants.{PAGE_END, PAGE_LINES}
use Rattle.overlay_bits.specs.Lines.{AreLines}
use Rattle.overlay_bits.specs.Laws.{are_none}
use Rattle.overlay_mapping_table.specs.declared.entry.Entry.{Entry}
use Rattle.segment_store.specs.Store.{Store}
use Rattle.space_maps.specs.Spaces.{page_in}
use Rattle.space_ledger.specs.View.{PageView, lines_of}
use Rattle.overlay_pages.specs.Lines.{lines_of_page, page_lines}
use Rattle.overlay_pages.specs.State.{PageState}
use Rattle.overlay_pages.specs.View.{IsJoined, MemoryView, page_state, state_of}
use Rattle.overlay_pages.specs.ViewLaws.{state_page}

-- What is true of a page of a memory as it is kept.

-- the page of the tables that a page is seen of
record IsSeen (view : MemoryView) (s p : ℕ) (x : PageState) : Type 0 where
  kept : PageView
  there : page_in view.table s p ≡ Some kept
  is : page_state view.store kept ≡ x

seen_of : (view : MemoryView) (s p : ℕ) (x : PageState) → page_in (state_of view) s p ≡ Some x → IsSeen view s p x
seen_of view s p x there = by_page (page_in view.table s p) refl (sym (state_page view s p) ∙ there)
  where
    by_page : (o : Option PageView) → page_in view.table s p ≡ o → option_map (page_state view.store) (page_in view.table s p) ≡ Some x → IsSeen view s p x
    by_page None is h = let no = sym h ∙ ap (option_map (page_state view.store)) is in cc
    by_page (Some y) is h = let same = sym (ap (option_map (page_state view.store)) is) ∙ h in record { kept = y; there = is; is = cc }

lines_of_page_is : lines_of_page ≡ 64
unfolding lines_of_page
lines_of_page_is = refl

count_lines : (line : ℕ → List ℕ) → length (page_lines line) ≡ PAGE_LINES
unfolding page_lines
count_lines line = length-map-range_with_len line 0 lines_of_page ∙ lines_of_page_is

count_kept : (store : Store) (y : PageView) → length (page_state store y).lines ≡ PAGE_LINES
unfolding page_state
count_kept store y = count_lines _

pub lines_count : (view : MemoryView) (s p : ℕ) (x : PageState) → page_in (state_of view) s p ≡ Some x → length x.lines ≡ PAGE_LINES
lines_count view s p x there =
    let it = seen_of view s p x there in ap (λ (y : PageState). length y.lines) (sym it.is) ∙ count_kept view.store it.kept

pub page_low : (view : MemoryView) (s p : ℕ) (x : PageState) → IsJoined view → page_in (state_of view) s p ≡ Some x → p < PAGE_END
page_low view s p x joined there = let it = seen_of view s p x there in (joined.held s p it.kept it.there).low

own_kept : (store : Store) (y : PageView) → (page_state store y).own ≡ lines_of y.overlay
unfolding page_state
own_kept store y = refl

pub own_set : (view : MemoryView) (s p : ℕ) (x : PageState) → IsJoined view → page_in (state_of view) s p ≡ Some x → AreLines x.own
own_set view s p x joined there =
    let it = seen_of view s p x there in
    subst AreLines (sym (own_kept view.store it.kept) ∙ ap (λ (y : PageState). y.own) it.is) (by_overlay it.kept it.there it.kept.overlay refl)
  where
    by_overlay : (y : PageView) → page_in view.table s p ≡ Some y → (o : Option Entry) → y.overlay ≡ o → AreLines (lines_of y.overlay)
    by_overlay y at None is = subst (λ o. AreLines (lines_of o)) (sym is) are_none
    by_overlay y at (Some overlay) is =
        subst (λ o. AreLines (lines_of o)) (sym is) (joined.store.sets overlay.block.unit _ ((joined.held s p y at).segment overlay is))
