use Rattle.overlay_pages.proofs.Common.{cases_eq, none-some, same_Some, ◌≡◌, ℕ, ◌+◌, ◌*◌, ◌^◌, ◌<◌, ◌≤◌, ◌⊎◌, true, false, cond, nat_eq, List, Option, Some, None, length, slice_index_or, slice_set, refl, true≢false, is_some, option_and_then, option_map, option_map_or, sym, ap, subst, ◌∙◌, arith, inl, inr, FRAME_UNITS, LAST_SPACE, PAGE_END, Bool}
use Rattle.overlay_pages.proofs.Stores.{Block, AreSettled, IsPiece, Piece, free_units, taken_at, units_in, has_line, overlay_page, same_page, same_space, Entry, line_of, Segment, IsStore, Store, IsFrame, IsSegment, frame_line, frame_place, line_in, lines_at, place_of, segment_at, KeepsFrame, KeepsSegment, KeepsSegments, block_of, lines_there, composed_line, scratch_line}
use Rattle.overlay_pages.proofs.Books.{by_test, alone_apart, are, arent, Holding, is_alone, books_there, by_place, class, units, map_alike, by_option, KeepsSpaces, keeps_page_set, page_again, page_set_beside, page_set_here, set_some, spaces_alike, there_space, holds_space, page_in, put_page, set_page, LedgerView, PageView, holding_of, ledger_of, lines_of, origin_of}
use Rattle.overlay_pages.proofs.Views.{lines_same, set_line, page_lines, PageState, IsHeld, IsJoined, IsJoinedWith, IsOwned, KeepsPlacesBut, MemoryView, line_seen, page_state, place_in_page, segment_of, state_of, view_of, state_awaiting, state_frames, state_holds, state_mark, state_page, state_zero}

-- A line of a page: it stands in the segment of the overlay that has it, or in the frame.
pub by_spot : {P : Type 0} (x : PageView) (i : ℕ) → ((e : Entry) → x.overlay ≡ Some e → has_line e.bits i ≡ true → P) → (has_line (lines_of x.overlay) i ≡ false → P) → P
by_spot x i own other = by_option x.overlay
    (λ none. other (ap (λ (o : Option Entry). has_line (lines_of o) i) none))
    (λ e over. by_test (has_line e.bits i) (own e over) (λ lacks. other (ap (λ (o : Option Entry). has_line (lines_of o) i) over ∙ lacks)))

pub place_inside : (store : Store) (x : PageView) (e : Entry) (i : ℕ) → x.overlay ≡ Some e → has_line e.bits i ≡ true → place_in_page store x i ≡ place_of store e.block i
place_inside store x e i over has =
    ap (λ (o : Option Entry). place_in_page store (record { entry = x.entry; overlay = o }) i) over
    ∙ ap (λ b. cond b (place_of store e.block i) (frame_place x.entry.frame i)) has

pub place_outside : (store : Store) (x : PageView) (i : ℕ) → has_line (lines_of x.overlay) i ≡ false → place_in_page store x i ≡ frame_place x.entry.frame i
place_outside store x i lacks = by_option x.overlay
    (λ e. ap (λ (o : Option Entry). place_in_page store (record { entry = x.entry; overlay = o }) i) e)
    (λ f e.
    ap (λ (o : Option Entry). place_in_page store (record { entry = x.entry; overlay = o }) i) e
    ∙ ap (λ b. cond b (place_of store f.block i) (frame_place x.entry.frame i)) (ap (λ (o : Option Entry). has_line (lines_of o) i) (sym e) ∙ lacks))

pub seen_inside : (store : Store) (x : PageView) (e : Entry) (i : ℕ) → x.overlay ≡ Some e → has_line e.bits i ≡ true → line_seen store x i ≡ line_in store e.block i
seen_inside store x e i over has = ap (line_of store.lines) (place_inside store x e i over has)

pub seen_outside : (store : Store) (x : PageView) (i : ℕ) → has_line (lines_of x.overlay) i ≡ false → line_seen store x i ≡ frame_line store x.entry.frame i
seen_outside store x i lacks = ap (line_of store.lines) (place_outside store x i lacks)

-- so a line of a page with an overlay is told by whether that has it
pub seen_overlaid : (store : Store) (x : PageView) (e : Entry) (i : ℕ) → x.overlay ≡ Some e → cond (has_line e.bits i) (line_in store e.block i) (frame_line store x.entry.frame i) ≡ line_seen store x i
seen_overlaid store x e i over = by_test (has_line e.bits i)
    (λ has. ap (λ b. cond b (line_in store e.block i) (frame_line store x.entry.frame i)) has ∙ sym (seen_inside store x e i over has))
    (λ lacks. ap (λ b. cond b (line_in store e.block i) (frame_line store x.entry.frame i)) lacks ∙ sym (seen_outside store x i (ap (λ (o : Option Entry). has_line (lines_of o) i) over ∙ lacks)))

-- and so it is where those of the overlay went to scratch
pub composed_seen : (old new : Store) (x : PageView) (e : Entry) → x.overlay ≡ Some e → ((i : ℕ) → i < 64 → has_line e.bits i ≡ true → scratch_line new i ≡ line_in old e.block i)
    → KeepsFrame old new x.entry.frame → (i : ℕ) → i < 64 → composed_line new x.entry.frame e.bits i ≡ line_seen old x i
composed_seen old new x e over lifted frame i low = pulled (has_line e.bits i) refl ∙ seen_overlaid old x e i over
  where
    pulled : (b : Bool) → has_line e.bits i ≡ b → cond b (scratch_line new i) (frame_line new x.entry.frame i) ≡ cond b (line_in old e.block i) (frame_line old x.entry.frame i)
    pulled true has = lifted i low has
    pulled false lacks = frame.lines i low

-- a page without an overlay has the lines of its frame
pub seen_bare : (store : Store) (x : PageView) → x.overlay ≡ None → page_lines (line_seen store x) ≡ page_lines (frame_line store x.entry.frame)
seen_bare store x bare = ap (λ (o : Option Entry). page_lines (line_seen store (record { entry = x.entry; overlay = o }))) bare

-- the lines of a page of which one is another one
pub set_lines : (old new : ℕ → List ℕ) (line : ℕ) (bytes : List ℕ) → line < 64 → new line ≡ bytes → ((i : ℕ) → i < 64 → (i ≡ line → ⊥) → new i ≡ old i)
    → page_lines new ≡ slice_set (page_lines old) line bytes
set_lines old new line bytes low here others =
    lines_same new (λ i. cond (nat_eq line i) bytes (old i)) (λ i below. elim (cases_eq i line) [
      | inl e ↦ ap new e ∙ here ∙ sym (ap (λ b. cond b bytes (old i)) (are line i (sym e)))
      | inr d ↦ others i below d ∙ sym (ap (λ b. cond b bytes (old i)) (arent line i (λ e. d (sym e))))
    ]) ∙ sym (set_line old line bytes low)

-- What a store keeps of a page.

-- the segment of an overlay of a page is a segment with its lines
pub overlay_there : (store : Store) (q r : ℕ) (y : PageView) (e : Entry) → IsHeld store q r y → y.overlay ≡ Some e → IsSegment store e.block
overlay_there store q r y e held is = record { segment = segment_of q r e; there = held.segment e is; order = refl }

pub overlay_lines : (store : Store) (q r : ℕ) (y : PageView) (e : Entry) → IsHeld store q r y → y.overlay ≡ Some e → lines_at store e.block.unit ≡ e.bits
overlay_lines store q r y e held is = lines_there store e.block.unit (segment_of q r e) (held.segment e is)

-- each line of it is what it was
pub seen_line_kept : (old new : Store) (q r : ℕ) (y : PageView) → IsHeld old q r y → KeepsFrame old new y.entry.frame
    → ((e : Entry) → y.overlay ≡ Some e → KeepsSegment old new e.block) → (line : ℕ) → line < 64 → line_seen new y line ≡ line_seen old y line
seen_line_kept old new q r y held frame segment line low = by_spot y line
    (λ e over has. seen_inside new y e line over has ∙ (segment e over).lines line (ap (λ l. has_line l line) (overlay_lines old q r y e held over) ∙ has) ∙ sym (seen_inside old y e line over has))
    (λ lacks. seen_outside new y line lacks ∙ frame.lines line low ∙ sym (seen_outside old y line lacks))

-- and stands where it stood
pub place_kept : (old new : Store) (q r : ℕ) (y : PageView) → IsHeld old q r y → ((e : Entry) → y.overlay ≡ Some e → KeepsSegment old new e.block) → (line : ℕ)
    → place_in_page new y line ≡ place_in_page old y line
place_kept old new q r y held segment line = by_spot y line
    (λ e over has. place_inside new y e line over has ∙ (segment e over).places line (ap (λ l. has_line l line) (overlay_lines old q r y e held over) ∙ has) ∙ sym (place_inside old y e line over has))
    (λ lacks. place_outside new y line lacks ∙ sym (place_outside old y line lacks))

-- so the page is
pub page_kept : (old new : Store) (q r : ℕ) (y : PageView) → IsHeld old q r y → KeepsFrame old new y.entry.frame
    → ((e : Entry) → y.overlay ≡ Some e → KeepsSegment old new e.block) → page_state new y ≡ page_state old y
unfolding page_state
page_kept old new q r y held frame segment =
    let lines = lines_same (line_seen new y) (line_seen old y) (seen_line_kept old new q r y held frame segment) in
    let base = lines_same (frame_line new y.entry.frame) (frame_line old y.entry.frame) frame.lines in
    λ i. record { entry = y.entry; own = lines_of y.overlay; lines = lines i; base = base i }

pub held_kept : (old new : Store) (q r : ℕ) (y : PageView) → IsHeld old q r y → KeepsFrame old new y.entry.frame
    → ((e : Entry) → y.overlay ≡ Some e → KeepsSegment old new e.block) → IsHeld new q r y
held_kept old new q r y held frame segment = record {
  number = held.number;
  low = held.low;
  frame = frame.stays;
  segment = λ e is. (segment e is).there ∙ held.segment e is;
  lined = held.lined;
  size = held.size;
}

-- Names of pages that are held tell them apart.

pub names_apart : {P : Type 0} (s p q r : ℕ) → s ≤ LAST_SPACE → p < PAGE_END → q ≤ LAST_SPACE → r < PAGE_END → overlay_page q r ≡ overlay_page s p → (q ≡ s → r ≡ p → P) → P
names_apart s p q r hs hp hq hr same go =
    go (same_space q r s p (omega (arith, hq)) (omega (arith, hr)) (omega (arith, hs)) (omega (arith, hp)) same)
    (same_page q r s p (omega (arith, hq)) (omega (arith, hr)) (omega (arith, hs)) (omega (arith, hp)) same)

-- two overlaid pages have their segments at different units
pub units_apart : (v : MemoryView) (s p : ℕ) (x : PageView) (e : Entry) (q r : ℕ) (y : PageView) (f : Entry) → IsJoined v → page_in v.table s p ≡ Some x → x.overlay ≡ Some e
    → page_in v.table q r ≡ Some y → y.overlay ≡ Some f → (q ≡ s → r ≡ p → ⊥) → f.block.unit ≡ e.block.unit → ⊥
units_apart v s p x e q r y f is at_x over at_y other d same =
    let one = is.held s p x at_x in
    let two = is.held q r y at_y in
    let found : Some (segment_of q r f) ≡ Some (segment_of s p e) = sym (two.segment f other) ∙ ap (segment_at v.store) same ∙ one.segment e over in
    names_apart s p q r one.number one.low two.number two.low (ap (λ (g : Segment). g.owner) (same_Some _ _ found)) d

-- A store keeps what it has.
pub frame_still : (store : Store) (frame : ℕ) → IsFrame store frame → KeepsFrame store store frame
frame_still store frame is = record { stays = is; lines = λ line low. refl }

pub segment_still : (store : Store) (block : Block) → KeepsSegment store store block
segment_still store block = record { there = refl; places = λ line has. refl; lines = λ line has. refl }

abbrev pub overlay_of : Option PageView → Option Entry
overlay_of = option_and_then (λ (x : PageView). x.overlay)

-- a unit isn't that of an overlay
abbrev pub IsElse : Option Entry → ℕ → Type 0
IsElse o unit = (e : Entry) → o ≡ Some e → unit ≡ e.block.unit → ⊥

-- What a store does where the overlay of a page was one and is another one now: it has the segment of this in place of that of the
-- other, and keeps the rest.
pub record Segments (P : List Piece → Type 0) (old new : Store) (s p : ℕ) (was now : Option Entry) : Type 0 where
  pub kept : (unit : ℕ) (segment : Segment) → IsElse was unit → segment_at old unit ≡ Some segment → KeepsSegment old new (block_of unit segment)
  pub others : (unit : ℕ) (segment : Segment) → segment_at new unit ≡ Some segment
      → (IsElse was unit × (segment_at old unit ≡ Some segment)) ⊎ ((e : Entry) × (now ≡ Some e) × (e.block.unit ≡ unit))
  pub there : (e : Entry) → now ≡ Some e → segment_at new e.block.unit ≡ Some (segment_of s p e)
  pub lined : (e : Entry) → now ≡ Some e → 0 < length e.bits
  pub size : (e : Entry) → now ≡ Some e → 2 ^ e.block.order ≡ class (length e.bits)
  pub blocks : P new.blocks
  pub whole : units_in new.blocks ≡ units_in old.blocks
  pub store : IsStore new

-- of a page that has no overlay before and after, where no segment changed
pub segments_bare : {P : List Piece → Type 0} (old new : Store) (s p : ℕ) → new.segments ≡ old.segments → KeepsSegments old new → P new.blocks → units_in new.blocks ≡ units_in old.blocks → IsStore new
    → Segments P old new s p None None
segments_bare old new s p same kept blocks whole store = record {
  kept = λ unit segment _ there. kept unit segment there;
  others = λ unit segment there. inl (λ e h. absurd (none-some e h), sym (ap (λ l. slice_index_or l unit None) same) ∙ there);
  there = λ e h. absurd (none-some e h);
  lined = λ e h. absurd (none-some e h);
  size = λ e h. absurd (none-some e h);
  blocks = blocks;
  whole = whole;
  store = store;
}

-- of a page whose overlay stays, where no segment changed but the lines of its own
pub segments_same : {P : List Piece → Type 0} (old new : Store) (s p : ℕ) (x : PageView) → IsHeld old s p x → new.segments ≡ old.segments
    → ((unit : ℕ) (segment : Segment) → IsElse x.overlay unit → segment_at old unit ≡ Some segment → KeepsSegment old new (block_of unit segment))
    → P new.blocks → units_in new.blocks ≡ units_in old.blocks → IsStore new → Segments P old new s p x.overlay x.overlay
segments_same old new s p x held same kept blocks whole store = record {
  kept = kept;
  others = λ unit segment at_unit.
      let before = sym (at unit) ∙ at_unit in
      by_option x.overlay
      (λ none. inl (λ e h. absurd (none-some e (sym none ∙ h)), before))
      (λ f over. elim (cases_eq unit f.block.unit) [
        | inl here ↦ inr (f, over, sym here)
        | inr away ↦ inl (λ e h there. away (there ∙ ap (λ (g : Entry). g.block.unit) (same_Some e f (sym h ∙ over))), before)
      ]);
  there = λ e over. at e.block.unit ∙ held.segment e over;
  lined = held.lined;
  size = held.size;
  blocks = blocks;
  whole = whole;
  store = store;
}
  where
    at : (unit : ℕ) → segment_at new unit ≡ segment_at old unit
    at unit = ap (λ l. slice_index_or l unit None) same

-- a frame that the zero frame is, or one of another page
abbrev pub IsOthers : LedgerView → ℕ → ℕ → ℕ → Type 0
IsOthers v s p frame =
    (frame ≡ v.zero_frame) ⊎ ((q : ℕ) × (r : ℕ) × (y : PageView) × (q ≡ s → r ≡ p → ⊥) × (page_in v q r ≡ Some y) × (frame ≡ y.entry.frame))

-- the frame of a page that is alone is none of those
pub alone_other : (v : LedgerView) (s p : ℕ) (x : PageView) → page_in v s p ≡ Some x → is_alone (ledger_of v) s p ≡ true → (frame : ℕ) → IsOthers v s p frame → frame ≡ x.entry.frame → ⊥
alone_other v s p x there alone frame other same =
    let apart = alone_apart (ledger_of v) s p alone in
    let origin : apart.holding.origin ≡ origin_of v.zero_frame x.entry.frame = ap (λ (h : Holding). h.origin) (same_Some _ _ (sym apart.there ∙ books_there holding_of v s p x there)) in
    elim other [
      | inl zero ↦ true≢false (sym (are apart.holding.origin 0 (origin ∙ ap (λ b. cond b 0 (x.entry.frame + 1)) (are x.entry.frame v.zero_frame (sym same ∙ zero)))) ∙ apart.not_zero)
      | inr y ↦
          let equal = ap (origin_of v.zero_frame) (sym y.5 ∙ same) ∙ sym origin in
          true≢false (sym (are (origin_of v.zero_frame y.2.entry.frame) apart.holding.origin equal) ∙ apart.others y.0 y.1 (holding_of v.zero_frame y.2) y.3 (books_there holding_of v y.0 y.1 y.2 y.4))
    ]

-- One page is another one now, and all that the others need stays.
pub record Step (P : List Piece → Type 0) (old new : MemoryView) (s p : ℕ) (a b : Option PageView) : Type 0 where
  pub there : holds_space old.table s ≡ true
  pub low : p < PAGE_END
  pub was : page_in old.table s p ≡ a
  pub table_is : new.table ≡ set_page old.table s p b
  pub segments : Segments P old.store new.store s p (overlay_of a) (overlay_of b)
  pub frames : (frame : ℕ) → IsFrame old.store frame → IsOthers old.table s p frame → KeepsFrame old.store new.store frame
  pub frame : (y : PageView) → b ≡ Some y → IsFrame new.store y.entry.frame
  pub count : free_units new.store.blocks + units (ledger_of new.table) ≡ units_in new.store.blocks

-- what the tables keep, the state does
pub state_keeps : (old new : MemoryView) → KeepsSpaces old.table new.table → KeepsSpaces (state_of old) (state_of new)
state_keeps old new keeps = record {
  frames = state_frames new ∙ keeps.frames ∙ sym (state_frames old);
  zero_frame = state_zero new ∙ keeps.zero_frame ∙ sym (state_zero old);
  there = λ q. state_holds new q ∙ keeps.there q ∙ sym (state_holds old q);
  awaiting = λ q. state_awaiting new q ∙ keeps.awaiting q ∙ sym (state_awaiting old q);
  marks = λ q. state_mark new q ∙ keeps.marks q ∙ sym (state_mark old q);
}

-- So the view is that of a memory still.
module _ {P : List Piece → Type 0} (old new : MemoryView) (s p : ℕ) (a b : Option PageView) (is : IsJoined old) (step : Step P old new s p a b) where
  step_keeps : KeepsSpaces old.table new.table
  step_keeps = subst (KeepsSpaces old.table) (sym step.table_is) (keeps_page_set old.table s p b step.there)

  step_here : (q r : ℕ) → q ≡ s → r ≡ p → page_in new.table q r ≡ b
  step_here q r qq rr = ap (λ (v : LedgerView). page_in v q r) step.table_is ∙ page_set_here old.table s p b q r qq rr

  step_beside : (q r : ℕ) → (q ≡ s → r ≡ p → ⊥) → page_in new.table q r ≡ page_in old.table q r
  step_beside q r d = ap (λ (v : LedgerView). page_in v q r) step.table_is ∙ page_set_beside old.table s p b q r d

  frame_kept : (q r : ℕ) (y : PageView) → (q ≡ s → r ≡ p → ⊥) → page_in old.table q r ≡ Some y → KeepsFrame old.store new.store y.entry.frame
  frame_kept q r y d there = step.frames y.entry.frame (is.held q r y there).frame (inr (q, r, y, d, there, refl))

  segment_kept : (q r : ℕ) (y : PageView) (f : Entry) → (q ≡ s → r ≡ p → ⊥) → page_in old.table q r ≡ Some y → y.overlay ≡ Some f → KeepsSegment old.store new.store f.block
  segment_kept q r y f d there over =
      step.segments.kept f.block.unit (segment_of q r f) (λ e was. by_option a
      (λ none. absurd (none-some e (sym (ap overlay_of none) ∙ was)))
      (λ x some. units_apart old s p x e q r y f is (step.was ∙ some) (sym (ap overlay_of some) ∙ was) there over d)) ((is.held q r y there).segment f over)

  step_held : (q r : ℕ) (y : PageView) → page_in new.table q r ≡ Some y → IsHeld new.store q r y
  step_held q r y there = by_place s p q r
      (λ qq rr.
      let here = ap overlay_of (sym (step_here q r qq rr) ∙ there) in
      subst (λ n. IsHeld new.store n r y) (sym qq) (subst (λ n. IsHeld new.store s n y) (sym rr) (record {
        number = is.numbers s step.there;
        low = step.low;
        frame = step.frame y (sym (step_here q r qq rr) ∙ there);
        segment = λ e over. step.segments.there e (here ∙ over);
        lined = λ e over. step.segments.lined e (here ∙ over);
        size = λ e over. step.segments.size e (here ∙ over);
      })))
      (λ d.
      let before : page_in old.table q r ≡ Some y = sym (step_beside q r d) ∙ there in
      held_kept old.store new.store q r y (is.held q r y before) (frame_kept q r y d before) (λ e over. segment_kept q r y e d before over))

  step_owned : (unit : ℕ) (segment : Segment) → segment_at new.store unit ≡ Some segment → IsOwned new.table unit segment
  step_owned unit segment there = elim (step.segments.others unit segment there) [
    | inl h ↦
        let own = is.owned unit segment h.1 in
        record {
          space = own.space;
          page = own.page;
          x = own.x;
          overlay = own.overlay;
          there = step_beside own.space own.page (λ qq rr. h.0 own.overlay (ap overlay_of (sym step.was ∙ (λ i. page_in old.table (sym qq i) (sym rr i)) ∙ own.there) ∙ own.is) (sym own.unit_is)) ∙ own.there;
          is = own.is;
          unit_is = own.unit_is;
          owner = own.owner;
        }
    | inr h ↦ by_option b
        (λ none. absurd (none-some h.0 (sym (ap overlay_of none) ∙ h.1)))
        (λ y some. record {
          space = s;
          page = p;
          x = y;
          overlay = h.0;
          there = step_here s p refl refl ∙ some;
          is = sym (ap overlay_of some) ∙ h.1;
          unit_is = h.2;
          owner = ap (λ (g : Segment). g.owner) (same_Some _ _ (sym there ∙ ap (segment_at new.store) (sym h.2) ∙ step.segments.there h.0 h.1));
        })
  ]

  state_beside : (q r : ℕ) → (q ≡ s → r ≡ p → ⊥) → page_in (state_of new) q r ≡ page_in (state_of old) q r
  state_beside q r d =
      state_page new q r ∙ ap (option_map (page_state new.store)) (step_beside q r d)
      ∙ map_alike (page_state new.store) (page_state old.store) (page_in old.table q r)
      (λ y e. page_kept old.store new.store q r y (is.held q r y e) (frame_kept q r y d e) (λ o over. segment_kept q r y o d e over))
      ∙ sym (state_page old q r)

  -- where lines of other pages stand
  pub places_beside : KeepsPlacesBut s p old new
  places_beside q r i d some _ = by_option (page_in old.table q r)
      (λ none. absurd (true≢false (sym some ∙ ap is_some none)))
      (λ y e. ap (λ (o : Option PageView). option_map_or (λ (x : PageView). place_in_page new.store x i) o 0) (step_beside q r d ∙ e)
      ∙ place_kept old.store new.store q r y (is.held q r y e) (λ o over. segment_kept q r y o d e over) i
      ∙ sym (ap (λ (o : Option PageView). option_map_or (λ (x : PageView). place_in_page old.store x i) o 0) e))

  pub stepped : IsJoinedWith P new × (state_of new ≡ set_page (state_of old) s p (option_map (page_state new.store) b))
  stepped = (
    record {
      store = step.segments.store;
      blocks = step.segments.blocks;
      frames = omega (arith, is.frames, step.segments.whole, step_keeps.frames);
      count = step.count;
      numbers = λ q there. is.numbers q (sym (step_keeps.there q) ∙ there);
      zero = subst (IsFrame new.store) (sym step_keeps.zero_frame) zero.stays;
      zeros = λ line low. ap (λ f. frame_line new.store f line) step_keeps.zero_frame ∙ zero.lines line low ∙ is.zeros line low;
      held = step_held;
      owned = step_owned;
    },
    spaces_alike (state_of old) (state_of new) (set_page (state_of old) s p z)
        (state_keeps old new step_keeps)
        (keeps_page_set (state_of old) s p z (state_holds old s ∙ step.there))
        (λ q r. by_place s p q r
        (λ qq rr. state_page new q r ∙ ap (option_map (page_state new.store)) (step_here q r qq rr) ∙ sym (page_set_here (state_of old) s p z q r qq rr))
        (λ d. state_beside q r d ∙ sym (page_set_beside (state_of old) s p z q r d))),
  )
    where
      z : Option PageState
      z = option_map (page_state new.store) b

      zero : KeepsFrame old.store new.store old.table.zero_frame
      zero = step.frames old.table.zero_frame is.zero (inl refl)

-- Lines of one page are others now, and the page and the tables are as they were.
pub record Rewrites (v : MemoryView) (new : Store) (s p : ℕ) (x : PageView) : Type 0 where
  pub blocks : new.blocks ≡ v.store.blocks
  pub same : new.segments ≡ v.store.segments
  pub store : IsStore new
  pub segments : (unit : ℕ) (segment : Segment) → IsElse x.overlay unit → segment_at v.store unit ≡ Some segment → KeepsSegment v.store new (block_of unit segment)
  pub frames : (frame : ℕ) → IsFrame v.store frame → IsOthers v.table s p frame → KeepsFrame v.store new frame

module _ (v : MemoryView) (new : Store) (s p : ℕ) (x : PageView) (is : IsJoined v) (there : page_in v.table s p ≡ Some x) (so : Rewrites v new s p x) where
  segment_same : (unit : ℕ) → segment_at new unit ≡ segment_at v.store unit
  segment_same unit = ap (λ l. slice_index_or l unit None) so.same

  rewrites_step : Step AreSettled v (view_of new v.table) s p (Some x) (Some x)
  rewrites_step =
      let was = is.held s p x there in
      record {
        there = there_space v.table s p x there;
        low = was.low;
        was = there;
        table_is = sym (set_some v.table s p x ∙ page_again v.table s p x there);
        segments = segments_same v.store new s p x was so.same so.segments (subst AreSettled (sym so.blocks) is.blocks) (ap units_in so.blocks) so.store;
        frames = so.frames;
        frame = λ y same. subst (λ (z : PageView). IsFrame new z.entry.frame) (same_Some x y same) (record {
          taken = subst (λ l. IsPiece l (taken_at (FRAME_UNITS * x.entry.frame) 4)) (sym so.blocks) was.frame.taken;
          alone = segment_same (FRAME_UNITS * x.entry.frame) ∙ was.frame.alone;
        });
        count = ap (λ l. free_units l + units (ledger_of v.table)) so.blocks ∙ is.count ∙ sym (ap units_in so.blocks);
      }

  pub rewritten : IsJoined (view_of new v.table) × (state_of (view_of new v.table) ≡ put_page (state_of v) s p (page_state new x))
  unfolding set_page
  rewritten = stepped v (view_of new v.table) s p (Some x) (Some x) is rewrites_step
