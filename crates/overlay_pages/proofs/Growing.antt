use Rattle.overlay_pages.proofs.Common.{◌≡◌, ℕ, ◌+◌, ◌^◌, ◌<◌, ◌≤◌, true, false, cond, nat_eq, List, [], Option, Some, None, IsSome, is_some, length, slice_set, refl, sym, ap, subst, ◌∙◌, arith, option_map, option_map_or, slice_index_or}
use Rattle.overlay_pages.proofs.Stores.{AreSettled, free_units, units_in, HasRoom, settled_room, AreLines, has_line, with_line, count_with, Entry, IsStore, capacity_of, Store, frame_line, line_in, scratch_line, KeepsFrames, KeepsSegments, count_fits}
use Rattle.overlay_pages.proofs.Books.{Ledger, class, units, units_own, class_none, class_one, map_alike, by_option, books_page, books_put_page, changed_there, keeps_still, page_over, page_put_here, spaces_alike, page_in, put_page, put_space, altered_page, LedgerView, PageView, lines_of, overlay_at, origin_of}
use Rattle.overlay_pages.proofs.Views.{lines_same, set_line, page_lines, PageState, State, books, held_page, Fits, discarded, limit_of, units_of, joins, laid, laid_line, IsHeld, IsJoined, MemoryView, line_seen, page_state, segment_of, state_of, view_of, state_books, state_frames, state_page, state_page_some, state_page_there}
use Rattle.overlay_pages.proofs.Steps.{held_kept, page_kept, seen_bare, state_keeps, composed_seen}
use Rattle.overlay_pages.proofs.Joining.{Has, order_low, overlay_segment, overlay_set, page_with, sets_are}
use Rattle.overlay_pages.proofs.Sizes.{can_grow, next_place, next_size}

-- An overlay grows.

pub altered_twice : (f g : PageState → PageState) (st : State) (s p : ℕ) (y : PageState) → page_in st s p ≡ Some y → altered_page f (altered_page g st s p) s p ≡ put_page st s p (f (g y))
altered_twice f g st s p y there =
    ap (λ t. altered_page f t s p) (changed_there g st s p y there) ∙ changed_there f (put_page st s p (g y)) s p (g y) (page_put_here st s p (g y) s p refl refl) ∙ page_over st s p (g y) (f (g y))

-- What that makes of the units.
pub altered_units : (turn : PageState → PageState) (st : State) (s p : ℕ) (y : PageState) → page_in st s p ≡ Some y → (turn y).entry.frame ≡ y.entry.frame
    → units_of (altered_page turn st s p) + class (length y.own) ≡ units_of st + class (length (turn y).own)
altered_units turn st s p y there same =
    ap (λ (l : Ledger). units l + class (length y.own)) (ap books (changed_there turn st s p y there) ∙ books_put_page held_page st s p (turn y))
    ∙ units_own (books st) s p (held_page st.zero_frame y) (held_page st.zero_frame (turn y))
    (books_page held_page st s p ∙ ap (option_map (held_page st.zero_frame)) there)
    (ap (origin_of st.zero_frame) same)

pub altered_limit : (turn : PageState → PageState) (st : State) (s p : ℕ) (y : PageState) → page_in st s p ≡ Some y → limit_of (altered_page turn st s p) ≡ limit_of st
unfolding put_page put_space
altered_limit turn st s p y there = ap limit_of (changed_there turn st s p y there)

-- how many units are free
pub free_is : (v : MemoryView) → IsJoined v → free_units v.store.blocks + units_of (state_of v) ≡ limit_of (state_of v)
free_is v is = omega (arith, is.count, is.frames, ap units (state_books v), state_frames v)

-- so there is room for a block of as many units
pub has_room : (v : MemoryView) → IsJoined v → (order : ℕ) → order ≤ 4 → 2 ^ order ≤ free_units v.store.blocks → HasRoom v.store.blocks order
has_room v is order low enough = settled_room v.store.blocks order low is.store.pieces is.blocks enough

-- A page without own lines has no overlay.

pub own_none : (v : MemoryView) (s p : ℕ) → Has v.table s p None → (y : PageState) → page_in (state_of v) s p ≡ Some y → y.own ≡ []
unfolding page_state
own_none v s p has y there =
    ap (λ (o : Option PageState). option_map_or (λ (z : PageState). z.own) o []) (sym there ∙ state_page_there v s p has.x has.there) ∙ ap lines_of has.is

pub bare_by : (v : MemoryView) (s p : ℕ) → IsJoined v → (y : PageState) → page_in (state_of v) s p ≡ Some y → y.own ≡ [] → IsSome (page_in v.table s p) → overlay_at v.table s p ≡ None
unfolding page_state
bare_by v s p is y there none found = by_option (overlay_at v.table s p)
    (λ e. e)
    (λ e over.
    let has = page_with v.table s p found (Some e) over in
    let own : e.bits ≡ [] = sym (ap lines_of has.is) ∙ ap (λ (o : Option PageState). option_map_or (λ (z : PageState). z.own) o []) (sym (state_page_there v s p has.x has.there) ∙ there) ∙ none in
    absurd (omega (arith, (is.held s p has.x has.there).lined e has.is, ap length own)))

-- The first line of an overlay.

pub begins_room : (store : Store) (table : LedgerView) (s p line : ℕ) (bytes : List ℕ) → IsJoined (view_of store table) → IsSome (page_in table s p) → overlay_at table s p ≡ None
    → Fits (altered_page (joins line bytes) (state_of (view_of store table)) s p) → HasRoom store.blocks 0
begins_room store table s p line bytes is there bare fits =
    let v = view_of store table in
    let has = page_with table s p there None bare in
    let y = page_state store has.x in
    let y_there = state_page_there v s p has.x has.there in
    let none = own_none v s p has y y_there in
    let now = altered_units (joins line bytes) (state_of v) s p y y_there refl in
    let one : class (length (with_line y.own line)) ≡ 1 = ap (λ l. class (length (with_line l line))) none ∙ class_one in
    let zero_class : class (length y.own) ≡ 0 = ap (λ l. class (length l)) none ∙ class_none in
    has_room v is 0 (omega arith) (omega (arith, free_is v is, fits, altered_limit (joins line bytes) (state_of v) s p y y_there, now, one, zero_class))

pub laid_first : (store : Store) (x : PageView) (line : ℕ) (bytes : List ℕ) → x.overlay ≡ None → line < 64 → laid store [] line bytes (page_state store x) ≡ joins line bytes (page_state store x)
unfolding page_state
laid_first store x line bytes bare low =
    let lines = sym (set_line (frame_line store x.entry.frame) line bytes low) ∙ ap (λ l. slice_set l line bytes) (sym (seen_bare store x bare)) in
    λ i. record { entry = x.entry; own = with_line (lines_of (sym bare i)) line; lines = lines i; base = page_lines (frame_line store x.entry.frame) }

pub begun_first : (store : Store) (table : LedgerView) (c : State) (s p line : ℕ) (bits bytes : List ℕ) → IsSome (page_in table s p) → overlay_at table s p ≡ None → line < 64
    → c ≡ altered_page (laid store bits line bytes) (state_of (view_of store table)) s p → bits ≡ [] → c ≡ altered_page (joins line bytes) (state_of (view_of store table)) s p
begun_first store table c s p line bits bytes there bare low is none =
    let b = view_of store table in
    let has = page_with table s p there None bare in
    let y_there = state_page_there b s p has.x has.there in
    is ∙ ap (λ l. altered_page (laid store l line bytes) (state_of b) s p) none ∙ changed_there (laid store [] line bytes) (state_of b) s p (page_state store has.x) y_there
    ∙ ap (put_page (state_of b) s p) (laid_first store has.x line bytes has.is low)
    ∙ sym (changed_there (joins line bytes) (state_of b) s p (page_state store has.x) y_there)

-- A store that keeps all that pages need.
pub all_kept : (old new : Store) (table : LedgerView) → IsJoined (view_of old table) → KeepsSegments old new → KeepsFrames old new → new.blocks ≡ old.blocks → new.segments ≡ old.segments → IsStore new
    → IsJoined (view_of new table) × (state_of (view_of new table) ≡ state_of (view_of old table))
all_kept old new table is segments frames blocks same store = (
  record {
    store = store;
    blocks = subst AreSettled (sym blocks) is.blocks;
    frames = is.frames ∙ sym (ap units_in blocks);
    count = omega (arith, is.count, ap free_units blocks, ap units_in blocks);
    numbers = is.numbers;
    zero = (frames table.zero_frame is.zero).stays;
    zeros = λ line low. (frames table.zero_frame is.zero).lines line low ∙ is.zeros line low;
    held = λ q r x there. held_kept old new q r x (is.held q r x there) (frames x.entry.frame (is.held q r x there).frame) (λ e over. segments e.block.unit (segment_of q r e) ((is.held q r x there).segment e over));
    owned = λ unit segment there. is.owned unit segment (sym (ap (λ l. slice_index_or l unit None) same) ∙ there);
  },
  spaces_alike (state_of (view_of old table)) (state_of (view_of new table)) (state_of (view_of old table))
      (state_keeps (view_of old table) (view_of new table) (keeps_still table)) (keeps_still (state_of (view_of old table)))
      (λ q r. state_page (view_of new table) q r ∙ map_alike (page_state new) (page_state old) (page_in table q r) (kept q r) ∙ sym (state_page (view_of old table) q r)),
)
  where
    kept : (q r : ℕ) (x : PageView) → page_in table q r ≡ Some x → page_state new x ≡ page_state old x
    kept q r x e =
        let held = is.held q r x e in
        page_kept old new q r x held (frames x.entry.frame held.frame) (λ f over. segments f.block.unit (segment_of q r f) (held.segment f over))

-- An overlay that ended, wherever segments went: how many units are free, and that the page is there without one.
module _ (a v : MemoryView) (s p : ℕ) (there : IsSome (page_in a.table s p)) (is : IsJoined v) (same : state_of v ≡ altered_page discarded (state_of a) s p) where
  abbrev was : Has a.table s p (overlay_at a.table s p)
  was = page_with a.table s p there (overlay_at a.table s p) refl

  pub ended_room : (n : ℕ) → n + units_of (altered_page discarded (state_of a) s p) ≤ limit_of (state_of a) → n ≤ free_units v.store.blocks
  ended_room n enough =
      omega (arith, free_is v is, ap units_of same, ap limit_of same, altered_limit discarded (state_of a) s p (page_state a.store was.x) (state_page_there a s p was.x was.there), enough)

  pub ended_page : page_in (state_of v) s p ≡ Some (discarded (page_state a.store was.x))
  ended_page =
      ap (λ st. page_in st s p) (same ∙ changed_there discarded (state_of a) s p (page_state a.store was.x) (state_page_there a s p was.x was.there))
      ∙ page_put_here (state_of a) s p (discarded (page_state a.store was.x)) s p refl refl

  pub ended_there : IsSome (page_in v.table s p)
  ended_there = sym (state_page_some v s p) ∙ ap is_some ended_page

  pub ended_bare : overlay_at v.table s p ≡ None
  ended_bare = bare_by v s p is (discarded (page_state a.store was.x)) ended_page refl ended_there

-- The overlay that grows: it has lines of scratch, which are those that it had.
module _ (a : MemoryView) (s p : ℕ) (e : Entry) (line : ℕ) (bytes : List ℕ) (is : IsJoined a) (there : IsSome (page_in a.table s p)) (over : overlay_at a.table s p ≡ Some e)
    (low : line < 64) (absent : has_line e.bits line ≡ false) (full : capacity_of e.block.order ≤ length e.bits) (fits : Fits (altered_page (joins line bytes) (state_of a) s p)) where
  has : Has a.table s p (Some e)
  has = page_with a.table s p there (Some e) over

  held : IsHeld a.store s p has.x
  held = is.held s p has.x has.there

  abbrev y : PageState
  y = page_state a.store has.x

  y_there : page_in (state_of a) s p ≡ Some y
  y_there = state_page_there a s p has.x has.there

  y_own : y.own ≡ e.bits
  unfolding page_state
  y_own = ap lines_of has.is

  are : AreLines e.bits
  are = sets_are a.store s p has.x e is.store held has.is

  pub grows_low : e.block.order < 4
  grows_low = can_grow e.block.order e.bits line (order_low a.store s p has.x e is.store held has.is) are low absent full

  at_capacity : capacity_of e.block.order ≡ length e.bits
  at_capacity = omega (arith, full, count_fits a.store is.store e.block (overlay_segment a.store a.table s p e is there over), ap length (overlay_set a.store a.table s p e is there over))

  pub grows_size : 2 ^ (e.block.order + 1) ≡ class (length e.bits + 1)
  grows_size = next_size e.block.order (length e.bits) grows_low at_capacity

  -- the units that are there once the old segment ended
  pub grows_enough : 2 ^ (e.block.order + 1) + units_of (altered_page discarded (state_of a) s p) ≤ limit_of (state_of a)
  unfolding page_state
  grows_enough =
      let dropped = altered_units discarded (state_of a) s p y y_there refl in
      let grown = altered_units (joins line bytes) (state_of a) s p y y_there refl in
      let one : length (with_line e.bits line) ≡ length e.bits + 1 = count_with e.bits line are low ∙ ap (λ b. length e.bits + cond b 0 1) absent in
      let more : class (length (with_line y.own line)) ≡ 2 ^ (e.block.order + 1) = ap (λ l. class (length (with_line l line))) y_own ∙ ap class one ∙ sym grows_size in
      omega (arith, dropped, class_none, grown, more, fits, altered_limit (joins line bytes) (state_of a) s p y y_there)

  -- and what the page is in the end
  pub grown_state : (d : MemoryView) → ((i : ℕ) → i < 64 → has_line e.bits i ≡ true → scratch_line d.store i ≡ line_in a.store e.block i) → KeepsFrames a.store d.store
      → state_of d ≡ altered_page discarded (state_of a) s p → (last : State) → last ≡ altered_page (laid d.store e.bits line bytes) (state_of d) s p → last ≡ altered_page (joins line bytes) (state_of a) s p
  unfolding page_state
  grown_state d lifted frames d_state last last_is =
      last_is ∙ ap (λ st. altered_page (laid d.store e.bits line bytes) st s p) d_state ∙ altered_twice (laid d.store e.bits line bytes) discarded (state_of a) s p y y_there
      ∙ ap (put_page (state_of a) s p) same ∙ sym (changed_there (joins line bytes) (state_of a) s p y y_there)
    where
      lines : page_lines (laid_line d.store e.bits line bytes has.x.entry.frame) ≡ slice_set (page_lines (line_seen a.store has.x)) line bytes
      lines =
          lines_same (laid_line d.store e.bits line bytes has.x.entry.frame) (λ i. cond (nat_eq line i) bytes (line_seen a.store has.x i)) (λ i below. ap (λ l. cond (nat_eq line i) bytes l) (composed_seen a.store d.store has.x e has.is lifted (frames has.x.entry.frame held.frame) i below))
          ∙ sym (set_line (line_seen a.store has.x) line bytes low)

      own : with_line e.bits line ≡ with_line (lines_of has.x.overlay) line
      own = ap (λ l. with_line l line) (sym y_own)

      same : laid d.store e.bits line bytes (discarded y) ≡ joins line bytes y
      same = λ i. record { entry = has.x.entry; own = own i; lines = lines i; base = page_lines (frame_line a.store has.x.entry.frame) }

  pub grows_fits : length e.bits < capacity_of (e.block.order + 1)
  grows_fits = next_place e.block.order (length e.bits) grows_low (omega (arith, at_capacity))
