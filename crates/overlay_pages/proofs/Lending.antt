use Rattle.overlay_pages.proofs.Common.{◌≡◌, ℕ, ◌*◌, ◌^◌, ◌<◌, ◌&&◌, true, false, cond, not, List, Option, Some, slice_set, refl, sym, ap, subst, ◌∙◌, arith, same_Some, option_map, option_map_or, and_parts}
use Rattle.overlay_pages.proofs.Stores.{Block, has_line, Entry, line_of, Store, IsFrame, IsSegment, frame_line, frame_place, line_in, lines_at, place_of, with_frame_line, with_segment_line, KeepsFrames, Alters, frames_stay, inside_of, lies_at, line_alters, line_set_store, others_stay, set_beside, set_here}
use Rattle.overlay_pages.proofs.Books.{is_alone, page_in, put_page, space_in, PageView, ledger_of, lines_of, changed_there, LedgerView}
use Rattle.overlay_pages.proofs.Views.{line_in_page, page_lines, line_at, lines_same, PageState, is_writable, with_written, writes_frame, written, with_line_at_place, IsInFrame, IsInSegment, IsHeld, IsJoined, MemoryView, line_seen, page_state, place_at, place_in_page, segment_of, state_of, view_of, state_page_there, PutsLine, FoundLine, Spot, Frame, Segment, IsFound, IsSpot, state_frames}
use Rattle.overlay_pages.proofs.Steps.{Rewrites, alone_other, by_spot, overlay_lines, overlay_there, place_inside, place_outside, rewritten, seen_inside, seen_outside, set_lines}
use Rattle.overlay_pages.proofs.Filling.{line_put}
use Rattle.overlay_pages.proofs.Tables.{frame_state}

-- What a borrower left: one page's line is another one, and all else stays.

pub record Writes (v : MemoryView) (new : Store) (s p line : ℕ) (bytes : List ℕ) (x : PageView) : Type 0 where
  pub rewrites : Rewrites v new s p x
  pub here : line_seen new x line ≡ bytes
  pub frame : (i : ℕ) → i < 64 → (i ≡ line → ⊥) → frame_line new x.entry.frame i ≡ frame_line v.store x.entry.frame i
  pub overlay : (e : Entry) → x.overlay ≡ Some e → (i : ℕ) → has_line e.bits i ≡ true → (i ≡ line → ⊥) → line_in new e.block i ≡ line_in v.store e.block i
  pub base : page_lines (frame_line new x.entry.frame) ≡ (written line bytes (page_state v.store x)).base

pub line_written : (v : MemoryView) (new : Store) (s p line : ℕ) (bytes : List ℕ) (x : PageView) → IsJoined v → page_in v.table s p ≡ Some x → line < 64 → Writes v new s p line bytes x
    → IsJoined (view_of new v.table) × (state_of (view_of new v.table) ≡ with_written (state_of v) s p line bytes)
unfolding with_written page_state
line_written v new s p line bytes x is there low so =
    let all = rewritten v new s p x is there so.rewrites in
    let elsewhere : (i : ℕ) → i < 64 → (i ≡ line → ⊥) → line_seen new x i ≡ line_seen v.store x i = λ i below away. by_spot x i
    (λ e over has. seen_inside new x e i over has ∙ so.overlay e over i has away ∙ sym (seen_inside v.store x e i over has))
    (λ lacks. seen_outside new x i lacks ∙ so.frame i below away ∙ sym (seen_outside v.store x i lacks)) in
    let lines = set_lines (line_seen v.store x) (line_seen new x) line bytes low so.here elsewhere in
    let same : page_state new x ≡ written line bytes (page_state v.store x) = λ i. record { entry = x.entry; own = lines_of x.overlay; lines = lines i; base = so.base i } in
    (all.0, all.1 ∙ ap (put_page (state_of v) s p) same ∙ sym (changed_there (written line bytes) (state_of v) s p (page_state v.store x) (state_page_there v s p x there)))

-- Whether a line can be written where it stands.

pub writable_segment : (v : MemoryView) (s p line : ℕ) (block : Block) → IsInSegment v.table s p line block → is_writable (state_of v) s p line ≡ true
unfolding page_state
writable_segment v s p line block so =
    ap (λ (o : Option PageState). option_map_or (λ (x : PageState). cond (has_line x.own line) true (writes_frame (state_of v) s p)) o false) (state_page_there v s p so.x so.there)
    ∙ ap (λ b. cond b true (writes_frame (state_of v) s p)) (ap (λ (o : Option Entry). has_line (lines_of o) line) so.is ∙ so.has)

pub writable_outside : (v : MemoryView) (s p line frame : ℕ) → IsInFrame v.table s p line frame
    → is_writable (state_of v) s p line ≡ (not (space_in v.table s).speculating && is_alone (ledger_of v.table) s p)
unfolding page_state
writable_outside v s p line frame so =
    ap (λ (o : Option PageState). option_map_or (λ (x : PageState). cond (has_line x.own line) true (writes_frame (state_of v) s p)) o false) (state_page_there v s p so.x so.there)
    ∙ ap (λ b. cond b true (writes_frame (state_of v) s p)) so.lacks ∙ frame_state v s p

-- The loan, as the owner sees it.

pub record LeavesLine (v now : MemoryView) (s p line at : ℕ) : Type 0 where
  pub lent : (bytes : List ℕ) → with_line_at_place v at bytes ≡ with_line_at_place now (place_at now s p line) bytes
  pub state : (bytes : List ℕ) → state_of (with_line_at_place now (place_at now s p line) bytes) ≡ with_written (state_of now) s p line bytes

pub leaves : (v now : MemoryView) (s p line at : ℕ) → place_at v s p line ≡ at → v ≡ now → ((bytes : List ℕ) → state_of (with_line_at_place v at bytes) ≡ with_written (state_of v) s p line bytes)
    → LeavesLine v now s p line at
leaves v now s p line at place same writes = record {
  lent = back;
  state = λ bytes. ap state_of (sym (back bytes)) ∙ writes bytes ∙ ap (λ (m : MemoryView). with_written (state_of m) s p line bytes) same;
}
  where
    back : (bytes : List ℕ) → with_line_at_place v at bytes ≡ with_line_at_place now (place_at now s p line) bytes
    back bytes = ap (λ at. with_line_at_place v at bytes) (sym place) ∙ ap (λ (m : MemoryView). with_line_at_place m (place_at m s p line) bytes) same

-- where a line that was found stands
pub found_spot : (v now : MemoryView) (found : FoundLine) (spot : Spot) → v ≡ now → IsFound now found → found.spot ≡ spot
    → IsSpot v.table found.space found.page found.line spot
found_spot v now found spot same is at =
    subst (IsSpot v.table found.space found.page found.line) at
    (subst (λ (m : MemoryView). IsSpot m.table found.space found.page found.line found.spot) (sym same) is.spot)

-- A line that was found, as the owner lends it: `now` is what is seen of it.
module _ (store : Store) (table : LedgerView) (now : MemoryView) (found : FoundLine) (is : IsJoined (view_of store table)) (same : view_of store table ≡ now) (so : IsFound now found) where
  abbrev v : MemoryView
  v = view_of store table

  abbrev s : ℕ
  s = found.space

  abbrev p : ℕ
  p = found.page

  abbrev line : ℕ
  line = found.line

  abbrev value : MemoryView → Option (List ℕ)
  value m = option_map (λ (x : PageState). line_in_page x.lines line) (page_in (state_of m) s p)

  abbrev place : Option PageView → ℕ
  place o = option_map_or (λ (x : PageView). place_in_page store x line) o 0

  -- what stands at the place of a page that is there
  value_at : (x : PageView) (at : ℕ) (bytes : List ℕ) → page_in table s p ≡ Some x → place_in_page store x line ≡ at → bytes ≡ line_of store.lines at → value now ≡ Some bytes
  unfolding page_state
  value_at x at bytes there stands is_line =
      ap value (sym same) ∙ ap (option_map (λ (y : PageState). line_in_page y.lines line)) (state_page_there v s p x there)
      ∙ ap Some (line_at (line_seen store x) line so.line ∙ ap (line_of store.lines) stands ∙ sym is_line)

  module _ (block : Block) (at : found.spot ≡ Segment block) where
    stands : IsInSegment table s p line block
    stands = found_spot v now found (Segment block) same so at

    mine : IsHeld store s p stands.x
    mine = is.held s p stands.x stands.there

    pub lent_there : IsSegment store block
    lent_there = subst (IsSegment store) stands.block_is (overlay_there store s p stands.x stands.overlay mine stands.is)

    has : has_line (lines_at store block.unit) line ≡ true
    has = ap (λ (b : Block). has_line (lines_at store b.unit) line) (sym stands.block_is) ∙ ap (λ l. has_line l line) (overlay_lines store s p stands.x stands.overlay mine stands.is) ∙ stands.has

    pub lent_has : (i : ℕ) → line ≡ i → has_line (lines_at store block.unit) i ≡ true
    lent_has i same_line = ap (has_line (lines_at store block.unit)) (sym same_line) ∙ has

    place_in_segment : (st : Store) → place_in_page st stands.x line ≡ place_of st block line
    place_in_segment st = place_inside st stands.x stands.overlay line stands.is stands.has ∙ ap (λ (b : Block). place_of st b line) stands.block_is

    pub lent_value : (bytes : List ℕ) → bytes ≡ line_in store block line → value now ≡ Some bytes
    lent_value bytes is_line = value_at stands.x (place_of store block line) bytes stands.there (place_in_segment store) is_line

    pub lent_inside : (i at : ℕ) → line ≡ i → at ≡ place_of store block i → at < 64 * (state_of now).frames
    lent_inside i at same_line at_is =
        let inside = inside_of store is.store block.unit lent_there.segment lent_there.there in
        omega (arith, (lies_at store is.store block lent_there line has).to, inside, is.frames, ap (λ k. 2 ^ k) lent_there.order, at_is, ap (place_of store block) same_line, sym (state_frames v) ∙ ap (λ (m : MemoryView). (state_of m).frames) same)

    lent_written : (bytes : List ℕ) → IsJoined (view_of (with_segment_line store block line bytes) table)
        × (state_of (view_of (with_segment_line store block line bytes) table) ≡ with_written (state_of v) s p line bytes)
    unfolding page_state
    lent_written bytes = line_written v new s p line bytes stands.x is stands.there so.line (record {
      rewrites = record {
        blocks = refl;
        same = refl;
        store = line_set_store store is.store block lent_there line has bytes;
        segments = λ unit segment apart at_unit. others_stay store new block.unit (4 * block.unit) (4 * 2 ^ block.order) alters unit segment (λ same. apart stands.overlay stands.is (same ∙ sym (ap (λ (b : Block). b.unit) stands.block_is))) at_unit;
        frames = λ frame f _. frames frame f;
      };
      here = ap (line_of new.lines) (place_in_segment new) ∙ set_here store is.store block lent_there line has bytes;
      frame = λ i below _. (frames stands.x.entry.frame mine.frame).lines i below;
      overlay = λ e over i its away.
          let same : e.block ≡ block = ap (λ (f : Entry). f.block) (same_Some e stands.overlay (sym over ∙ stands.is)) ∙ stands.block_is in
          let set = ap (λ (b : Block). has_line (lines_at store b.unit) i) (sym same) ∙ ap (λ l. has_line l i) (overlay_lines store s p stands.x e mine over) ∙ its in
          ap (λ (b : Block). line_in new b i) same ∙ set_beside store is.store block lent_there line i has set away bytes ∙ ap (λ (b : Block). line_in store b i) (sym same);
      base = lines_same (frame_line new stands.x.entry.frame) (frame_line store stands.x.entry.frame) (frames stands.x.entry.frame mine.frame).lines
          ∙ sym (ap (λ b. cond b (page_lines (frame_line store stands.x.entry.frame)) (slice_set (page_lines (frame_line store stands.x.entry.frame)) line bytes)) (ap (λ (o : Option Entry). has_line (lines_of o) line) stands.is ∙ stands.has));
    })
      where
        new : Store
        new = with_segment_line store block line bytes

        alters : Alters store new block.unit (4 * block.unit) (4 * 2 ^ block.order)
        alters = line_alters store is.store block lent_there line has bytes

        frames : KeepsFrames store new
        frames = frames_stay store new block.unit (4 * block.unit) (4 * 2 ^ block.order) alters lent_there.segment lent_there.there

    pub lent_joined : (bytes : List ℕ) → IsJoined (view_of (with_segment_line store block line bytes) table)
    lent_joined bytes = (lent_written bytes).0

    pub lent_back : LeavesLine v now s p line (place_of store block line)
    lent_back = leaves v now s p line _ (ap place stands.there ∙ place_in_segment store) same (λ bytes. (lent_written bytes).1)

  -- in a frame, which is the page's alone where the line is written
  module _ (frame : ℕ) (at : found.spot ≡ Frame frame) where
    outside : IsInFrame table s p line frame
    outside = found_spot v now found (Frame frame) same so at

    pub lent_frame : IsFrame store frame
    lent_frame = subst (IsFrame store) outside.frame_is (is.held s p outside.x outside.there).frame

    place_in_frame : place_in_page store outside.x line ≡ frame_place frame line
    place_in_frame = place_outside store outside.x line outside.lacks ∙ ap (λ n. frame_place n line) outside.frame_is

    pub lent_outside : (bytes : List ℕ) → bytes ≡ frame_line store frame line → value now ≡ Some bytes
    lent_outside bytes is_line = value_at outside.x (frame_place frame line) bytes outside.there place_in_frame is_line

    module _ (writable : is_writable (state_of now) s p line ≡ true) where
      outside_written : (bytes : List ℕ) → IsJoined (view_of (with_frame_line store frame line bytes) table)
          × (state_of (view_of (with_frame_line store frame line bytes) table) ≡ with_written (state_of v) s p line bytes)
      unfolding page_state
      outside_written bytes = line_written v new s p line bytes outside.x is outside.there so.line (record {
        rewrites = record {
          blocks = refl;
          same = refl;
          store = puts.fills.store;
          segments = λ unit segment _ at_unit. puts.fills.segments unit segment at_unit;
          frames = λ f taken other. puts.fills.frames f (λ same. alone_other table s p outside.x outside.there alone f other (same ∙ sym outside.frame_is)) taken;
        };
        here = seen_outside new outside.x line outside.lacks ∙ here;
        frame = λ i _ away. others i away;
        overlay = λ e over i has _.
            let was = is.held s p outside.x outside.there in
            (puts.fills.segments e.block.unit (segment_of s p e) (was.segment e over)).lines i (ap (λ l. has_line l i) (overlay_lines store s p outside.x e was over) ∙ has);
        base = set_lines (frame_line store outside.x.entry.frame) (frame_line new outside.x.entry.frame) line bytes so.line here (λ i below away. others i away)
            ∙ sym (ap (λ b. cond b (page_lines (frame_line store outside.x.entry.frame)) (slice_set (page_lines (frame_line store outside.x.entry.frame)) line bytes)) outside.lacks);
      })
        where
          new : Store
          new = with_frame_line store frame line bytes

          alone : is_alone (ledger_of table) s p ≡ true
          alone = (and_parts (not (space_in table s).speculating) (is_alone (ledger_of table) s p)
              (sym (writable_outside v s p line frame outside) ∙ ap (λ (m : MemoryView). is_writable (state_of m) s p line) same ∙ writable)).1

          puts : PutsLine store new frame line bytes
          puts = line_put store frame line bytes is.store lent_frame so.line

          here : frame_line new outside.x.entry.frame line ≡ bytes
          here = ap (λ f. frame_line new f line) outside.frame_is ∙ puts.here

          others : (i : ℕ) → (i ≡ line → ⊥) → frame_line new outside.x.entry.frame i ≡ frame_line store outside.x.entry.frame i
          others i away = ap (λ f. frame_line new f i) outside.frame_is ∙ puts.others i away ∙ sym (ap (λ f. frame_line store f i) outside.frame_is)

      pub outside_joined : (bytes : List ℕ) → IsJoined (view_of (with_frame_line store frame line bytes) table)
      outside_joined bytes = (outside_written bytes).0

      pub outside_back : LeavesLine v now s p line (frame_place frame line)
      outside_back = leaves v now s p line _ (ap place outside.there ∙ place_in_frame) same (λ bytes. (outside_written bytes).1)
