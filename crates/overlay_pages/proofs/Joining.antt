use Rattle.overlay_pages.proofs.Common.{is_some, option_and_then, ◌≡◌, ℕ, ◌+◌, ◌*◌, ◌^◌, ◌<◌, ◌≤◌, ◌||◌, Bool, true, false, cond, nat_eq, List, [], Option, Some, None, IsSome, length, get_or, slice_index_or, slice_set, refl, true≢false, sym, ap, ap₂, subst, ◌∙◌, arith, inl, inr, pow_pos, nat_tests, none-some, same_Some, get_or-set_other, get_or-set_same, cases_eq}
use Rattle.overlay_pages.proofs.Stores.{AreSettled, CanSettle, free_units, units_in, Block, AreLines, has_line, with_line, count_with, has_with, overlay_page, Entry, Segment, IsStore, capacity_of, Store, IsSegment, frame_line, line_in, lines_at, lines_with, scratch_line, segment_at, BeginsSegment, CopiesSegment, EndsSegment, HasLinesNow, Inserts, KeepsFrame, KeepsFrames, KeepsOtherSegments, Lays, block_of, inside_of, lines_there, order_of, refilled, stays_twice}
use Rattle.overlay_pages.proofs.Books.{by_option, are, class, overlaid_pages, overlaid_few, class_none, changed_there, page_again, page_in, put_page, altered_page, LedgerView, PageView, ledger_of, lines_of, overlay_at, with_overlay}
use Rattle.overlay_pages.proofs.Views.{page_lines, lines_same, set_line, state_page_there, discarded, joins, laid, laid_line, IsLaid, IsHeld, IsJoined, KeepsPlacesBut, MemoryView, line_seen, page_state, segment_of, state_of, view_of, PageState, State}
use Rattle.overlay_pages.proofs.Sizes.{still_fits}
use Rattle.overlay_pages.proofs.Steps.{overlay_lines, overlay_there, seen_bare, seen_inside, seen_outside, seen_overlaid}
use Rattle.overlay_pages.proofs.Overlaying.{Overlays, overlays, overlays_places, segments_some}

-- An overlay that ends, one that begins, and one that gets a line.

-- the page of an overlay, and one that has none
pub record Has (v : LedgerView) (s p : ℕ) (o : Option Entry) : Type 0 where
  pub x : PageView
  pub there : page_in v s p ≡ Some x
  pub is : x.overlay ≡ o

pub page_with : (v : LedgerView) (s p : ℕ) → IsSome (page_in v s p) → (o : Option Entry) → overlay_at v s p ≡ o → Has v s p o
page_with v s p some o over = by_option (page_in v s p)
    (λ none. absurd (true≢false (sym some ∙ ap is_some none)))
    (λ x e. record { x = x; there = e; is = sym (ap (λ (f : Option PageView). option_and_then (λ (y : PageView). y.overlay) f) e) ∙ over })

-- The segments after one of them changed.

segment_set : (old : Store) (u : ℕ) (segments : List (Option Segment)) (z : Option Segment) → u < length old.segments → segments ≡ slice_set old.segments u z → slice_index_or segments u None ≡ z
segment_set old u segments z low is = ap (λ l. get_or l u None) is ∙ get_or-set_same old.segments u z None low

pub segment_beside : (old : Store) (u : ℕ) (segments : List (Option Segment)) (z : Option Segment) → segments ≡ slice_set old.segments u z
    → (unit : ℕ) → (unit ≡ u → ⊥) → slice_index_or segments unit None ≡ segment_at old unit
segment_beside old u segments z is unit away = ap (λ l. get_or l unit None) is ∙ get_or-set_other old.segments u unit z None away

pub unit_low : (store : Store) → IsStore store → (u : ℕ) (segment : Segment) → segment_at store u ≡ Some segment → u < length store.segments
unit_low store is u segment there = omega (arith, inside_of store is u segment there, is.units, pow_pos segment.order)

-- A page whose overlay ended.
pub dropped : (old : MemoryView) (store : Store) (table : LedgerView) (s p : ℕ) (x : PageView) (e : Entry) → IsJoined old → page_in old.table s p ≡ Some x → x.overlay ≡ Some e
    → EndsSegment old.store store e.block → KeepsOtherSegments old.store e.block.unit store → KeepsFrames old.store store → free_units store.blocks ≡ free_units old.store.blocks + 2 ^ e.block.order
    → units_in store.blocks ≡ units_in old.store.blocks → IsStore store → (AreSettled old.store.blocks → CanSettle store.blocks) → table ≡ with_overlay old.table s p None → Overlays CanSettle old (view_of store table) s p x None
dropped old store table s p x e is there over ends kept frames free whole is_store settles table_is =
    let held = is.held s p x there in
    let gone = segment_set old.store e.block.unit store.segments None (unit_low old.store is.store e.block.unit (segment_of s p e) (held.segment e over)) ends.segments in
    record {
      there = there;
      table_is = table_is;
      segments = record {
        kept = λ unit segment apart at_unit. kept unit segment (λ same. apart e over same) at_unit;
        others = λ unit segment at_unit. elim (cases_eq unit e.block.unit) [
          | inl same ↦ absurd (none-some segment (sym gone ∙ ap (segment_at store) (sym same) ∙ at_unit))
          | inr away ↦ inl (λ f h same. away (same ∙ ap (λ (y : Entry). y.block.unit) (same_Some f e (sym h ∙ over))), sym (segment_beside old.store e.block.unit store.segments None ends.segments unit away) ∙ at_unit)
        ];
        there = λ f h. absurd (none-some f h);
        lined = λ f h. absurd (none-some f h);
        size = λ f h. absurd (none-some f h);
        blocks = settles is.blocks;
        whole = whole;
        store = is_store;
      };
      frames = frames;
      free = omega (arith, free, held.size e over, class_none, ap (λ (o : Option Entry). class (length (lines_of o))) over);
    }

pub dropped_page : (old : MemoryView) (store : Store) (s p : ℕ) (x : PageView) → IsHeld old.store s p x → KeepsFrames old.store store
    → page_state store (record { entry = x.entry; overlay = None }) ≡ discarded (page_state old.store x)
unfolding page_state
dropped_page old store s p x held frames =
    let base = lines_same (frame_line store x.entry.frame) (frame_line old.store x.entry.frame) (frames x.entry.frame held.frame).lines in
    λ i. record { entry = x.entry; own = []; lines = base i; base = base i }

-- a page without an overlay is what it is when it is discarded
pub bare_discarded : (store : Store) (x : PageView) → x.overlay ≡ None → discarded (page_state store x) ≡ page_state store x
unfolding page_state
bare_discarded store x bare =
    let lines = sym (seen_bare store x bare) in
    λ i. record { entry = x.entry; own = lines_of (sym bare i); lines = lines i; base = page_lines (frame_line store x.entry.frame) }

-- Lines of a segment after a line came into it.

-- A page with an overlay of these lines, line by line: it has a line that came in, and others that it had, or took from scratch.
pub record Fills (old new : Store) (block : Block) (bits : List ℕ) (line : ℕ) (bytes : List ℕ) (each : ℕ → List ℕ) : Type 0 where
  pub here : line_in new block line ≡ bytes
  pub others : (i : ℕ) → has_line bits i ≡ true → (line ≡ i → ⊥) → line_in new block i ≡ each i

filled_line : (old new : Store) (block : Block) (bits : List ℕ) (line : ℕ) (bytes : List ℕ) (each : ℕ → List ℕ) (x : PageView) → Fills old new block bits line bytes each → KeepsFrame old new x.entry.frame → (i : ℕ) → i < 64
    → line_seen new (record { entry = x.entry; overlay = Some (record { bits = with_line bits line; block = block }) }) i
    ≡ cond (nat_eq line i) bytes (cond (has_line bits i) (each i) (frame_line old x.entry.frame i))
filled_line old new block bits line bytes each x fills frame i low = at (nat_eq line i) (has_line bits i) refl refl
  where
    y : PageView
    y = record { entry = x.entry; overlay = Some (record { bits = with_line bits line; block = block }) }

    at : (a b : Bool) → nat_eq line i ≡ a → has_line bits i ≡ b → line_seen new y i ≡ cond a bytes (cond b (each i) (frame_line old x.entry.frame i))
    at true b e h =
        let same : line ≡ i = grind (arith, nat_tests) in
        seen_inside new y _ i refl (has_with bits line i ∙ ap (λ t. t || has_line bits i) e) ∙ ap (line_in new block) (sym same) ∙ fills.here
    at false true e h = seen_inside new y _ i refl (has_with bits line i ∙ (λ j. e j || h j)) ∙ fills.others i h (λ same. true≢false (sym (are line i same) ∙ e))
    at false false e h = seen_outside new y i (has_with bits line i ∙ (λ j. e j || h j)) ∙ frame.lines i low

-- so the page is laid
pub laid_page : (old was new : Store) (block : Block) (bits : List ℕ) (line : ℕ) (bytes : List ℕ) (x : PageView) → Fills old new block bits line bytes (scratch_line was) → KeepsFrame old new x.entry.frame
    → ((i : ℕ) → i < 64 → frame_line old x.entry.frame i ≡ frame_line was x.entry.frame i)
    → page_state new (record { entry = x.entry; overlay = Some (record { bits = with_line bits line; block = block }) }) ≡ laid was bits line bytes (page_state was x)
unfolding page_state
laid_page old was new block bits line bytes x fills frame same =
    let lines = lines_same (line_seen new (record { entry = x.entry; overlay = Some (record { bits = with_line bits line; block = block }) })) (laid_line was bits line bytes x.entry.frame)
    (λ i low. filled_line old new block bits line bytes (scratch_line was) x fills frame i low ∙ ap (λ l. cond (nat_eq line i) bytes (cond (has_line bits i) (scratch_line was i) l)) (same i low)) in
    let base = lines_same (frame_line new x.entry.frame) (frame_line was x.entry.frame) (λ i low. frame.lines i low ∙ same i low) in
    λ i. record { entry = x.entry; own = with_line bits line; lines = lines i; base = base i }

-- and one whose overlay got a line is joined by it
pub joined_page : (old new : Store) (e : Entry) (line : ℕ) (bytes : List ℕ) (x : PageView) → x.overlay ≡ Some e → line < 64
    → Fills old new e.block e.bits line bytes (line_in old e.block) → KeepsFrame old new x.entry.frame
    → page_state new (record { entry = x.entry; overlay = Some (record { bits = with_line e.bits line; block = e.block }) }) ≡ joins line bytes (page_state old x)
unfolding page_state
joined_page old new e line bytes x over low fills frame =
    let own : with_line e.bits line ≡ with_line (lines_of x.overlay) line = ap (λ (o : Option Entry). with_line (lines_of o) line) (sym over) in
    let lines = lines_same _ (λ i. cond (nat_eq line i) bytes (line_seen old x i))
    (λ i below. filled_line old new e.block e.bits line bytes (line_in old e.block) x fills frame i below ∙ ap (λ l. cond (nat_eq line i) bytes l) (seen_overlaid old x e i over))
    ∙ sym (set_line (line_seen old x) line bytes low) in
    let base = lines_same (frame_line new x.entry.frame) (frame_line old x.entry.frame) frame.lines in
    λ i. record { entry = x.entry; own = own i; lines = lines i; base = base i }

-- a page that is turned into itself
pub altered_still : (turn : PageState → PageState) (st : State) (s p : ℕ) (y : PageState) → page_in st s p ≡ Some y → turn y ≡ y → st ≡ altered_page turn st s p
altered_still turn st s p y there same = sym (changed_there turn st s p y there ∙ ap (put_page st s p) same ∙ page_again st s p y there)

pub bare_state : (v : MemoryView) (s p : ℕ) → Has v.table s p None → state_of v ≡ altered_page discarded (state_of v) s p
bare_state v s p has = altered_still discarded (state_of v) s p (page_state v.store has.x) (state_page_there v s p has.x has.there) (bare_discarded v.store has.x has.is)

-- A line comes into an overlay.

pub sets_are : (store : Store) (s p : ℕ) (x : PageView) (e : Entry) → IsStore store → IsHeld store s p x → x.overlay ≡ Some e → AreLines e.bits
sets_are store s p x e is held over = is.sets e.block.unit (segment_of s p e) (held.segment e over)

pub order_low : (store : Store) (s p : ℕ) (x : PageView) (e : Entry) → IsStore store → IsHeld store s p x → x.overlay ≡ Some e → e.block.order ≤ 4
order_low store s p x e is held over = order_of store is e.block.unit (segment_of s p e) (held.segment e over)

pub inserted : (old : MemoryView) (store : Store) (table : LedgerView) (s p : ℕ) (x : PageView) (e : Entry) (line : ℕ) → IsJoined old → page_in old.table s p ≡ Some x → x.overlay ≡ Some e
    → line < 64 → has_line e.bits line ≡ false → length e.bits < capacity_of e.block.order
    → HasLinesNow old.store store e.block (lines_with old.store e.block line) → KeepsOtherSegments old.store e.block.unit store → KeepsFrames old.store store → IsStore store
    → table ≡ with_overlay old.table s p (Some (record { bits = with_line e.bits line; block = e.block }))
    → Overlays AreSettled old (view_of store table) s p x (Some (record { bits = with_line e.bits line; block = e.block }))
inserted old store table s p x e line is there over low absent fits now kept frames is_store table_is =
    record {
      there = there;
      table_is = table_is;
      segments = segments_some old.store store s p x.overlay (record { bits = with_line e.bits line; block = e.block })
          (λ f same. ap (λ (y : Entry). y.block.unit) (same_Some _ _ (sym same ∙ over))) (λ none. absurd (none-some e (sym none ∙ over)))
          (ap (λ l. get_or l e.block.unit None) now.segments
          ∙ refilled old.store.segments e.block.unit (segment_of s p e) (lines_with old.store e.block line) (held.segment e over) (unit_low old.store is.store e.block.unit (segment_of s p e) (held.segment e over))
          ∙ ap (λ l. Some (record { owner = overlay_page s p; order = e.block.order; bits = with_line l line })) (overlay_lines old.store s p x e held over))
          (segment_beside old.store e.block.unit store.segments _ now.segments) kept (omega (arith, count)) size_now
          (subst AreSettled (sym now.blocks) is.blocks) (ap units_in now.blocks) is_store;
      frames = frames;
      free = omega (arith, ap free_units now.blocks, size_now, held.size e over, ap (λ (o : Option Entry). class (length (lines_of o))) over);
    }
  where
    held : IsHeld old.store s p x
    held = is.held s p x there

    count : length (with_line e.bits line) ≡ length e.bits + 1
    count = count_with e.bits line (sets_are old.store s p x e is.store held over) low ∙ ap (λ b. length e.bits + cond b 0 1) absent

    size_now : 2 ^ e.block.order ≡ class (length (with_line e.bits line))
    size_now = still_fits e.block.order (length e.bits) (order_low old.store s p x e is.store held over) (held.size e over) fits ∙ ap class (sym count)

pub inserted_fills : (old new : Store) (s p : ℕ) (x : PageView) (e : Entry) (line : ℕ) (bytes : List ℕ) → IsHeld old s p x → x.overlay ≡ Some e → Inserts old new e.block line bytes
    → Fills old new e.block e.bits line bytes (line_in old e.block)
inserted_fills old new s p x e line bytes held over inserts = record {
  here = inserts.here;
  others = λ i has other. inserts.lines i (ap (λ l. has_line l i) (overlay_lines old s p x e held over) ∙ has);
}

-- An overlay begins.

pub frames_twice : (one two three : Store) → KeepsFrames one two → KeepsFrames two three → KeepsFrames one three
frames_twice one two three a b frame is = record {
  stays = (b frame (a frame is).stays).stays;
  lines = λ line low. (b frame (a frame is).stays).lines line low ∙ (a frame is).lines line low;
}

pub others_twice : (one two three : Store) (u : ℕ) → KeepsOtherSegments one u two → KeepsOtherSegments two u three → KeepsOtherSegments one u three
others_twice one two three u a b unit segment away there =
    let first = a unit segment away there in stays_twice one two three (block_of unit segment) first (b unit segment away (first.there ∙ there))

pub laid_by : (old began new : Store) (owner order named : ℕ) (block : Block) (bits : List ℕ) → owner ≡ named → BeginsSegment old began owner order [] block
    → Lays began new block bits → HasLinesNow began new block bits → KeepsOtherSegments began block.unit new → KeepsFrames began new → IsStore new → IsLaid old new named block bits (scratch_line old)
laid_by old began new owner order named block bits owner_is b lays now kept laid_frames new_is = record {
  fresh = b.fresh;
  there = ap (λ l. get_or l block.unit None) now.segments
      ∙ refilled began.segments block.unit (record { owner = owner; order = block.order; bits = [] }) bits b.there (unit_low began b.store block.unit _ b.there)
      ∙ ap (λ n. Some (record { owner = n; order = block.order; bits = bits })) owner_is;
  elsewhere = λ unit away. segment_beside began block.unit new.segments _ now.segments unit away ∙ segment_beside old block.unit began.segments _ b.segments unit away;
  kept = others_twice old began new block.unit (λ unit segment _ there. b.others unit segment there) kept;
  frames = frames_twice old began new b.frames laid_frames;
  lines = λ i low has. lays.lines i has ∙ b.scratch i low;
  free = omega (arith, ap free_units now.blocks, b.free);
  whole = ap units_in now.blocks ∙ b.units;
  settled = λ h. subst AreSettled (sym now.blocks) (b.settled h);
  store = new_is;
}

-- or with those of another one, as they stand there
pub copied_by : (old new : Store) (owner order named : ℕ) (from to : Block) (bits : List ℕ) → owner ≡ named → lines_at old from.unit ≡ bits → BeginsSegment old new owner order (lines_at old from.unit) to
    → CopiesSegment old new from to → IsLaid old new named to bits (line_in old from)
copied_by old new owner order named from to bits owner_is set b copies = record {
  fresh = b.fresh;
  there = b.there ∙ ap₂ (λ n l. Some (record { owner = n; order = to.order; bits = l })) owner_is set;
  elsewhere = segment_beside old to.unit new.segments _ b.segments;
  kept = λ unit segment _ there. b.others unit segment there;
  frames = b.frames;
  lines = λ i low has. copies.lines i (ap (λ l. has_line l i) set ∙ has);
  free = b.free;
  whole = b.units;
  settled = b.settled;
  store = b.store;
}

-- and got a line more, and it is that of a page that had none
module _ (old : MemoryView) (began store : Store) (table : LedgerView) (s p : ℕ) (x : PageView) (block : Block) (bits : List ℕ) (line : ℕ) (bytes : List ℕ) (is : IsJoined old) (there : page_in old.table s p ≡ Some x)
    (bare : x.overlay ≡ None) (are : AreLines bits) (low : line < 64) (absent : has_line bits line ≡ false) (size : 2 ^ block.order ≡ class (length bits + 1))
    (so : IsLaid old.store began (overlay_page s p) block bits (scratch_line old.store)) (inserts : Inserts began store block line bytes) (now : HasLinesNow began store block (lines_with began block line))
    (kept : KeepsOtherSegments began block.unit store) (frames : KeepsFrames began store) (store_is : IsStore store)
    (table_is : table ≡ with_overlay old.table s p (Some (record { bits = with_line bits line; block = block }))) where
  set_is : lines_at began block.unit ≡ bits
  set_is = lines_there began block.unit _ so.there

  now_there : segment_at store block.unit ≡ Some (segment_of s p (record { bits = with_line bits line; block = block }))
  now_there =
      ap (λ l. get_or l block.unit None) now.segments
      ∙ refilled began.segments block.unit (record { owner = overlay_page s p; order = block.order; bits = bits }) (lines_with began block line) so.there (unit_low began so.store block.unit _ so.there)
      ∙ ap (λ l. Some (record { owner = overlay_page s p; order = block.order; bits = with_line l line })) set_is

  count_now : length (with_line bits line) ≡ length bits + 1
  count_now = count_with bits line are low ∙ ap (λ b. length bits + cond b 0 1) absent

  size_now : 2 ^ block.order ≡ class (length (with_line bits line))
  size_now = size ∙ ap class (sym count_now)

  begins : Overlays AreSettled old (view_of store table) s p x (Some (record { bits = with_line bits line; block = block }))
  begins = record {
    there = there;
    table_is = table_is;
    segments = segments_some old.store store s p x.overlay (record { bits = with_line bits line; block = block }) (λ f over. absurd (none-some f (sym bare ∙ over))) (λ _. so.fresh) now_there
        (λ unit away. segment_beside began block.unit store.segments _ now.segments unit away ∙ so.elsewhere unit away)
        (others_twice old.store began store block.unit so.kept kept) (omega (arith, count_now)) size_now
        (subst AreSettled (sym now.blocks) (so.settled is.blocks)) (ap units_in now.blocks ∙ so.whole) store_is;
    frames = frames_twice old.store began store so.frames frames;
    free = omega (arith, ap free_units now.blocks, so.free, size_now, class_none, ap (λ (o : Option Entry). class (length (lines_of o))) bare);
  }

  pub begun : IsJoined (view_of store table) × (state_of (view_of store table) ≡ altered_page (laid old.store bits line bytes) (state_of old) s p)
  begun =
      overlays old (view_of store table) s p x (Some (record { bits = with_line bits line; block = block })) is begins (laid old.store bits line bytes)
      (laid_page began old.store store block bits line bytes x
      (record { here = inserts.here; others = λ i has other. inserts.lines i (ap (λ l. has_line l i) set_is ∙ has) ∙ so.lines i (are.inside i has) has })
      (frames x.entry.frame (so.frames x.entry.frame (is.held s p x there).frame).stays) (so.frames x.entry.frame (is.held s p x there).frame).lines)

  -- and the lines of other pages stay where they stand
  pub begun_places : KeepsPlacesBut s p old (view_of store table)
  begun_places = overlays_places old (view_of store table) s p x (Some (record { bits = with_line bits line; block = block })) is begins

-- There is room for another overlay: an overlaid page needs a unit, and the zero frame needs sixteen.
pub overlay_room : (store : Store) (table : LedgerView) → IsJoined (view_of store table) → overlaid_pages (ledger_of table) < 16 * table.frames
overlay_room store table is = omega (arith, overlaid_few (ledger_of table), is.count, is.frames)

-- The segment of an overlay is there, with its lines.
module _ (store : Store) (table : LedgerView) (s p : ℕ) (e : Entry) (is : IsJoined (view_of store table)) (there : IsSome (page_in table s p)) (over : overlay_at table s p ≡ Some e) where
  abbrev found : Has table s p (Some e)
  found = page_with table s p there (Some e) over

  pub overlay_segment : IsSegment store e.block
  overlay_segment = overlay_there store s p found.x e (is.held s p found.x found.there) found.is

  pub overlay_set : lines_at store e.block.unit ≡ e.bits
  overlay_set = overlay_lines store s p found.x e (is.held s p found.x found.there) found.is

  pub overlay_order : e.block.order ≤ 4
  overlay_order = order_low store s p found.x e is.store (is.held s p found.x found.there) found.is
