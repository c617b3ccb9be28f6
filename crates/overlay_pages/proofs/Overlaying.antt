use Rattle.overlay_pages.proofs.Common.{option_map, ◌≡◌, ℕ, ◌+◌, ◌^◌, ◌<◌, List, Option, Some, None, length, refl, sym, ap, subst, ◌∙◌, arith, inl, inr, option_and_then, none-some, same_Some, cases_eq}
use Rattle.overlay_pages.proofs.Stores.{Store, Piece, free_units, units_in, Entry, IsStore, segment_at, KeepsFrames, KeepsOtherSegments, IsFrame}
use Rattle.overlay_pages.proofs.Books.{Ledger, class, units, units_own, books_page, books_put_page, changed_there, page_set_beside, set_some, there_space, page_in, put_page, set_page, altered_page, LedgerView, PageView, holding_of, ledger_of, lines_of, overlay_at, with_overlay, by_option}
use Rattle.overlay_pages.proofs.Views.{PageState, IsJoined, IsJoinedWith, KeepsPlacesBut, MemoryView, page_state, segment_of, state_of, state_page_there}
use Rattle.overlay_pages.proofs.Steps.{Step, places_beside, stepped, Segments}

-- An overlay begins, ends, or gets other lines.

-- A page has an overlay now, whose segment starts at a unit where only it had one.
pub segments_some : {P : List Piece → Type 0} (old new : Store) (s p : ℕ) (was : Option Entry) (e : Entry) → ((f : Entry) → was ≡ Some f → f.block.unit ≡ e.block.unit) → (was ≡ None → segment_at old e.block.unit ≡ None)
    → segment_at new e.block.unit ≡ Some (segment_of s p e) → ((unit : ℕ) → (unit ≡ e.block.unit → ⊥) → segment_at new unit ≡ segment_at old unit) → KeepsOtherSegments old e.block.unit new
    → 0 < length e.bits → 2 ^ e.block.order ≡ class (length e.bits) → P new.blocks → units_in new.blocks ≡ units_in old.blocks → IsStore new → Segments P old new s p was (Some e)
segments_some old new s p was e was_there was_free here elsewhere kept lined size blocks whole store = record {
  kept = λ unit segment apart there. kept unit segment (λ same. by_option was
      (λ none. none-some segment (sym (was_free none) ∙ ap (segment_at old) (sym same) ∙ there))
      (λ f over. apart f over (same ∙ sym (was_there f over)))) there;
  others = λ unit segment there. elim (cases_eq unit e.block.unit) [
    | inl same ↦ inr (e, refl, sym same)
    | inr away ↦ inl (λ f over same. away (same ∙ was_there f over), sym (elsewhere unit away) ∙ there)
  ];
  there = λ f same. subst (λ (g : Entry). segment_at new g.block.unit ≡ Some (segment_of s p g)) (same_Some e f same) here;
  lined = λ f same. subst (λ (g : Entry). 0 < length g.bits) (same_Some e f same) lined;
  size = λ f same. subst (λ (g : Entry). 2 ^ g.block.order ≡ class (length g.bits)) (same_Some e f same) size;
  blocks = blocks;
  whole = whole;
  store = store;
}

-- The overlay of a page is another one.
pub record Overlays (P : List Piece → Type 0) (old new : MemoryView) (s p : ℕ) (x : PageView) (o : Option Entry) : Type 0 where
  pub there : page_in old.table s p ≡ Some x
  pub table_is : new.table ≡ with_overlay old.table s p o
  pub segments : Segments P old.store new.store s p x.overlay o
  pub frames : KeepsFrames old.store new.store
  pub free : free_units new.store.blocks + class (length (lines_of o)) ≡ free_units old.store.blocks + class (length (lines_of x.overlay))

-- That is a step of that page.
module _ {P : List Piece → Type 0} (old new : MemoryView) (s p : ℕ) (x : PageView) (o : Option Entry) (is : IsJoined old) (so : Overlays P old new s p x o) where
  abbrev y : PageView
  y = record { entry = x.entry; overlay = o }

  table_is : new.table ≡ put_page old.table s p y
  unfolding with_overlay
  table_is = so.table_is ∙ changed_there (λ (z : PageView). record { entry = z.entry; overlay = o }) old.table s p x so.there

  units_now : units (ledger_of new.table) + class (length (lines_of x.overlay)) ≡ units (ledger_of old.table) + class (length (lines_of o))
  units_now =
      ap (λ (l : Ledger). units l + class (length (lines_of x.overlay))) (ap ledger_of table_is ∙ books_put_page holding_of old.table s p y)
      ∙ units_own (ledger_of old.table) s p (holding_of old.table.zero_frame x) (holding_of old.table.zero_frame y)
      (books_page holding_of old.table s p ∙ ap (option_map (holding_of old.table.zero_frame)) so.there) refl

  step : Step P old new s p (Some x) (Some y)
  unfolding set_page
  step = record {
    there = there_space old.table s p x so.there;
    low = (is.held s p x so.there).low;
    was = so.there;
    table_is = table_is;
    segments = so.segments;
    frames = λ frame f _. so.frames frame f;
    frame = λ z same. subst (λ (z : PageView). IsFrame new.store z.entry.frame) (same_Some y z same) (so.frames x.entry.frame (is.held s p x so.there).frame).stays;
    count = omega (arith, is.count, so.segments.whole, so.free, units_now);
  }

  -- So the view is that of a memory still, in which the page is altered.
  pub overlays : (turn : PageState → PageState) → page_state new.store y ≡ turn (page_state old.store x) → IsJoinedWith P new × (state_of new ≡ altered_page turn (state_of old) s p)
  unfolding set_page
  overlays turn same =
      let all = stepped old new s p (Some x) (Some y) is step in
      (all.0, all.1 ∙ ap (λ y. put_page (state_of old) s p y) same ∙ sym (changed_there turn (state_of old) s p (page_state old.store x) (state_page_there old s p x so.there)))

  -- The lines of other pages stay where they stand.
  pub overlays_places : KeepsPlacesBut s p old new
  overlays_places = places_beside old new s p (Some x) (Some y) is step

-- The overlay of another page stays.
pub overlay_beside : (turn : PageView → PageView) (v : LedgerView) (s p : ℕ) (x : PageView) → page_in v s p ≡ Some x → (q r : ℕ) → (q ≡ s → r ≡ p → ⊥) → overlay_at (altered_page turn v s p) q r ≡ overlay_at v q r
overlay_beside turn v s p x there q r d =
    ap (λ (t : LedgerView). overlay_at t q r) (changed_there turn v s p x there ∙ sym (set_some v s p (turn x))) ∙ ap (option_and_then (λ (z : PageView). z.overlay)) (page_set_beside v s p (Some (turn x)) q r d)
