use Rattle.overlay_pages.proofs.Common.{◌≡◌, ℕ, ◌<◌, true, List, Option, Some, IsSome, is_some, refl, true≢false, none-some, sym, ap, subst, ◌∙◌, inl, inr, option_map, option_map_or}
use Rattle.overlay_pages.proofs.Stores.{has_line, line_of, scratch_place}
use Rattle.segment_store.specs.Laws.{places_set}
use Rattle.segment_store.specs.Store.{HoldsLine}
use Rattle.overlay_pages.proofs.Books.{by_option, page_in, PageView}
use Rattle.overlay_pages.proofs.Views.{line_in_page, line_at, PageState, is_writable, with_written, with_line_at_place, FoundLine, Frame, Segment, IsFound, IsJoined, IsPlace, IsPutPlace, KeepsPlaces, MemoryView, line_seen, page_state, place_at, place_in_page, state_of, state_page, state_page_there}
use Rattle.overlay_pages.proofs.Steps.{by_spot, overlay_lines, overlay_there, place_inside, place_outside}
use Rattle.overlay_pages.proofs.Lending.{lent_back, lent_joined, outside_back, outside_joined}
use Rattle.overlay_pages.proofs.OwnPlaces.{InFrame, InOverlay, has_own_place, is_segment, stands}

-- Lines by the places at which they stand.

-- a line stands at the place of each line of a page that is there
pub held_place : (m : MemoryView) → IsJoined m → (q r i : ℕ) → IsSome (page_in m.table q r) → i < 64 → HoldsLine m.store (place_at m q r i)
held_place m is q r i there low = elim (stands m q r i there) [
  | inl o ↦ inl (record {
    block = o.overlay.block;
    line = i;
    there = is_segment m is q r i o;
    has = ap (λ l. has_line l i) (overlay_lines m.store q r o.x o.overlay (is.held q r o.x o.there) o.over) ∙ o.has;
    at_is = sym o.place;
  })
  | inr f ↦ inr (record { frame = f.x.entry.frame; line = i; taken = (is.held q r f.x f.there).frame; low = low; at_is = sym f.place })
]

-- and a line that is written where one stands moves none
pub keeps_places : (m : MemoryView) → IsJoined m → (at : ℕ) → HoldsLine m.store at → (bytes : List ℕ) → KeepsPlaces m (with_line_at_place m at bytes)
keeps_places m is at holds bytes q r i some low = by_option (page_in m.table q r)
    (λ none. absurd (true≢false (sym some ∙ ap is_some none)))
    (λ y there.
    ap (λ (o : Option PageView). option_map_or (λ (x : PageView). place_in_page new.store x i) o 0) there
    ∙ by_spot y i
    (λ e over has.
    place_inside new.store y e i over has
    ∙ places_set m.store is.store at holds bytes e.block (overlay_there m.store q r y e (is.held q r y there) over) i
    (ap (λ l. has_line l i) (overlay_lines m.store q r y e (is.held q r y there) over) ∙ has)
    ∙ sym (place_inside m.store y e i over has))
    (λ lacks. place_outside new.store y i lacks ∙ sym (place_outside m.store y i lacks))
    ∙ sym (ap (λ (o : Option PageView). option_map_or (λ (x : PageView). place_in_page m.store x i) o 0) there))
  where
    new : MemoryView
    new = with_line_at_place m at bytes

-- so does one that was found
pub found_places : (m now : MemoryView) → IsJoined m → m ≡ now → (found : FoundLine) → IsFound now found → (bytes : List ℕ) → KeepsPlaces now (with_line_at_place now (place_at now found.space found.page found.line) bytes)
found_places m now is same found so =
    let joined = subst IsJoined same is in
    keeps_places now joined (place_at now found.space found.page found.line) (held_place now joined found.space found.page found.line there so.line)
  where
    there : IsSome (page_in now.table found.space found.page)
    there = by_option (page_in now.table found.space found.page)
        (λ none. absurd (none-some found.perms (sym (ap (option_map (λ (y : PageState). y.entry.perms)) (state_page now found.space found.page ∙ ap (option_map (page_state now.store)) none)) ∙ so.perms)))
        (λ y at. ap is_some at)

-- A line at a place, of any page whose line stands there.
module _ (m : MemoryView) (at : ℕ) (joined : IsJoined m) (is : IsPlace m at) where
  pub place_held : HoldsLine m.store at
  place_held = subst (HoldsLine m.store) is.at_is (held_place m joined is.space is.page is.line is.there is.low)

  pub place_before : at < scratch_place m.store
  place_before = subst (λ n. n < scratch_place m.store) is.at_is (has_own_place m joined is.space is.page is.line is.there is.low).before_scratch

  pub place_value : (bytes : List ℕ) → bytes ≡ line_of m.store.lines at
      → option_map (λ (x : PageState). line_in_page x.lines is.line) (page_in (state_of m) is.space is.page) ≡ Some bytes
  unfolding page_state
  place_value bytes bytes_are = by_option (page_in m.table is.space is.page)
      (λ none. absurd (true≢false (sym is.there ∙ ap is_some none)))
      (λ x there.
      ap (option_map (λ (y : PageState). line_in_page y.lines is.line)) (state_page_there m is.space is.page x there)
      ∙ ap Some (line_at (line_seen m.store x) is.line is.low
      ∙ ap (line_of m.store.lines) (sym (ap (λ (o : Option PageView). option_map_or (λ (y : PageView). place_in_page m.store y is.line) o 0) there) ∙ is.at_is) ∙ sym bytes_are))

-- What a borrower of it leaves.

abbrev in_overlay : (m : MemoryView) (q r i : ℕ) → InOverlay m q r i → FoundLine
in_overlay m q r i o = record { page = r; spot = Segment o.overlay.block; space = q; line = i; perms = o.x.entry.perms }

overlay_found : (m : MemoryView) (q r i : ℕ) (low : i < 64) (o : InOverlay m q r i) → IsFound m (in_overlay m q r i o)
unfolding page_state
overlay_found m q r i low o = record {
  perms = ap (option_map (λ (y : PageState). y.entry.perms)) (state_page_there m q r o.x o.there);
  line = low;
  spot = record { x = o.x; overlay = o.overlay; there = o.there; is = o.over; block_is = refl; has = o.has };
}

abbrev in_frame : (m : MemoryView) (q r i : ℕ) → InFrame m q r i → FoundLine
in_frame m q r i f = record { page = r; spot = Frame f.x.entry.frame; space = q; line = i; perms = f.x.entry.perms }

frame_found : (m : MemoryView) (q r i : ℕ) (low : i < 64) (f : InFrame m q r i) → IsFound m (in_frame m q r i f)
unfolding page_state
frame_found m q r i low f = record {
  perms = ap (option_map (λ (y : PageState). y.entry.perms)) (state_page_there m q r f.x f.there);
  line = low;
  spot = record { x = f.x; there = f.there; frame_is = refl; lacks = f.lacks };
}

written_there : (m : MemoryView) → IsJoined m → (q r i : ℕ) → IsSome (page_in m.table q r) → i < 64 → is_writable (state_of m) q r i ≡ true → (bytes : List ℕ)
    → IsJoined (with_line_at_place m (place_at m q r i) bytes) × (state_of (with_line_at_place m (place_at m q r i) bytes) ≡ with_written (state_of m) q r i bytes)
written_there m is q r i there low writable bytes = elim (stands m q r i there) [
  | inl o ↦ (
    subst (λ at. IsJoined (with_line_at_place m at bytes)) (sym o.place)
        (lent_joined m.store m.table m (in_overlay m q r i o) is refl (overlay_found m q r i low o) o.overlay.block refl bytes),
    (lent_back m.store m.table m (in_overlay m q r i o) is refl (overlay_found m q r i low o) o.overlay.block refl).state bytes,
  )
  | inr f ↦ (
    subst (λ at. IsJoined (with_line_at_place m at bytes)) (sym f.place)
        (outside_joined m.store m.table m (in_frame m q r i f) is refl (frame_found m q r i low f) f.x.entry.frame refl writable bytes),
    (outside_back m.store m.table m (in_frame m q r i f) is refl (frame_found m q r i low f) f.x.entry.frame refl writable).state bytes,
  )
]

pub place_written : (m : MemoryView) (at : ℕ) → IsJoined m → (is : IsPutPlace m at) → (bytes : List ℕ)
    → IsJoined (with_line_at_place m at bytes) × (state_of (with_line_at_place m at bytes) ≡ with_written (state_of m) is.is.space is.is.page is.is.line bytes)
place_written m at joined is bytes =
    subst (λ n. IsJoined (with_line_at_place m n bytes) × (state_of (with_line_at_place m n bytes) ≡ with_written (state_of m) is.is.space is.is.page is.is.line bytes)) is.is.at_is
    (written_there m joined is.is.space is.is.page is.is.line is.is.there is.is.low is.writable bytes)
