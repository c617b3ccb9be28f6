use Rattle.overlay_pages.proofs.Common.{◌≡◌, ℕ, ◌+◌, ◌^◌, ◌<◌, true, List, [], Option, Some, None, IsSome, is_some, length, refl, sym, ap, subst, ◌∙◌, arith, inl, inr, cases_lt, none-some, same_Some, option_and_then, option_map}
use Rattle.overlay_pages.proofs.Stores.{AreSettled, CanSettle, Piece, free_units, units_in, Block, Move, Ascend, has_line, overlay_page, page_of, space_of, page_back, space_back, Entry, Segment, IsStore, Store, IsFrame, frame_line, segment_at, AreCarried, IsKept, IsOutside, IsTarget, KeepsFrames, MakesMoves, units_after, lands, made_carries, outside_fixed, made_low}
use Rattle.overlay_pages.proofs.Books.{by_option, by_place, class, units, map_twice, map_from, KeepsSpaces, changed_there, keeps_page_set, keeps_still, keeps_twice, page_set_beside, page_set_here, set_some, spaces_alike, there_space, page_in, set_page, LedgerView, PageView, ledger_of, lines_of, overlay_at, with_block, with_overlay}
use Rattle.overlay_pages.proofs.Views.{lines_same, books, MovesFewBeside, FollowsAll, IsAhead, IsBehind, IsOfPage, FollowsAt, Moved, MovesFew, Tells, relocated, went_overlay, went_page, IsHeld, IsJoinedWith, IsOwned, line_seen, page_state, segment_of, state_of, view_of, state_books, state_page}
use Rattle.overlay_pages.proofs.Overlaying.{overlay_beside}
use Rattle.overlay_pages.proofs.Steps.{by_spot, names_apart, seen_inside, seen_outside, state_keeps}
use Rattle.overlay_pages.proofs.Sizes.{shifted_count}

-- Segments went where a function tells, and the tables come after it.

entry_in : List ℕ → Block → Entry
entry_in bits b = record { bits = bits; block = b }

abbrev put_block : ℕ → ℕ → Entry → Entry
put_block unit order e = record { bits = e.bits; block = record { unit = unit; order = order } }

page_over : PageView → Option Entry → PageView
page_over x o = record { entry = x.entry; overlay = o }

-- a page whose segment stays, or that has none
pub page_stays : (by : ℕ → ℕ) (x : PageView) → ((e : Entry) → x.overlay ≡ Some e → by e.block.unit ≡ e.block.unit) → went_page by x ≡ x
unfolding went_page went_overlay entry_in page_over
page_stays by x stays = ap (page_over x) (over x.overlay stays)
  where
    over : (o : Option Entry) → ((e : Entry) → o ≡ Some e → by e.block.unit ≡ e.block.unit) → option_map (went_overlay by) o ≡ o
    over None h = refl
    over (Some e) h = ap (λ u. Some (entry_in e.bits (record { unit = u; order = e.block.order }))) (h e refl)

-- The page of a segment that is at a unit now, and its block there.
module _ (was new : Store) (old now : LedgerView) (by : ℕ → ℕ) (behind : IsBehind was new old now by) (unit : ℕ) (segment : Segment) (at_unit : segment_at new unit ≡ Some segment) where
  abbrev from : ℕ
  from = (behind.carried.back unit segment at_unit).0

  before : segment_at was from ≡ Some segment
  before = (behind.carried.back unit segment at_unit).1

  comes : by from ≡ unit
  comes = (behind.carried.back unit segment at_unit).2

  own : IsOwned old from segment
  own = behind.joined.owned from segment before

  held : IsHeld was own.space own.page own.x
  held = behind.joined.held own.space own.page own.x own.there

  abbrev s : ℕ
  s = space_of segment.owner

  abbrev p : ℕ
  p = page_of segment.owner

  space_is : s ≡ own.space
  space_is = ap space_of own.owner ∙ space_back own.space own.page (omega (arith, held.number)) (omega (arith, held.low))

  page_is : p ≡ own.page
  page_is = ap page_of own.owner ∙ page_back own.space own.page (omega (arith, held.number)) (omega (arith, held.low))

  own_there : page_in old s p ≡ Some own.x
  own_there = ap (λ n. page_in old n p) space_is ∙ ap (page_in old own.space) page_is ∙ own.there

  segment_is : segment ≡ segment_of own.space own.page own.overlay
  segment_is = same_Some _ _ (sym before ∙ ap (segment_at was) (sym own.unit_is) ∙ held.segment own.overlay own.is)

  -- only that page went there
  only : (q r : ℕ) (x : PageView) (e : Entry) → page_in old q r ≡ Some x → x.overlay ≡ Some e → by e.block.unit ≡ unit → (q ≡ s) × (r ≡ p)
  only q r x e at_x over to =
      let mine = behind.joined.held q r x at_x in
      let went = (behind.carried.along e.block.unit (segment_of q r e) (mine.segment e over)).there in
      let found : Some segment ≡ Some (segment_of q r e) = sym at_unit ∙ ap (segment_at new) (sym to) ∙ went in
      let named : overlay_page q r ≡ overlay_page own.space own.page = sym (ap (λ (t : Segment). t.owner) (same_Some _ _ found)) ∙ own.owner in
      names_apart own.space own.page q r held.number held.low mine.number mine.low named (λ a b. (a ∙ sym space_is, b ∙ sym page_is))

  abbrev put : PageView → PageView
  put x = record { entry = x.entry; overlay = option_map (put_block unit segment.order) x.overlay }

  -- what it becomes, whether it was told before or not
  put_is : put own.x ≡ went_page by own.x
  unfolding went_page went_overlay page_over entry_in
  put_is =
      let to_is = sym comes ∙ ap by (sym own.unit_is) in
      let order_is = ap (λ (t : Segment). t.order) segment_is in
      ap (page_over own.x)
      (ap (option_map (put_block unit segment.order)) own.is ∙ (λ j. Some (entry_in own.overlay.bits (record { unit = to_is j; order = order_is j }))) ∙ sym (ap (option_map (went_overlay by)) own.is))

  put_twice : put (went_page by own.x) ≡ put own.x
  unfolding went_page went_overlay page_over
  put_twice = ap (page_over own.x) (map_twice (put_block unit segment.order) (went_overlay by) (put_block unit segment.order) own.x.overlay (λ e is. refl))

  abbrev next : LedgerView
  next = relocated now unit (Some segment)

  went_some : is_some (went_page by own.x).overlay ≡ true
  unfolding went_page
  went_some = ap (λ (o : Option Entry). is_some (option_map (went_overlay by) o)) own.is

  -- the page in the tables, before and after
  now_here : (y : PageView) × (page_in now s p ≡ Some y) × (put y ≡ went_page by own.x) × (is_some y.overlay ≡ true)
  now_here = elim (behind.pages s p) [
    | inl e ↦ (own.x, e ∙ own_there, put_is, ap (λ (o : Option Entry). is_some o) own.is)
    | inr e ↦ (went_page by own.x, e ∙ ap (option_map (went_page by)) own_there, put_twice ∙ put_is, went_some)
  ]

  changed : next ≡ set_page now s p (Some (put now_here.0))
  unfolding with_block
  changed = changed_there put now s p now_here.0 now_here.1 ∙ sym (set_some now s p (put now_here.0))

  next_here : (q r : ℕ) → q ≡ s → r ≡ p → page_in next q r ≡ Some (went_page by own.x)
  next_here q r qq rr = ap (λ (v : LedgerView). page_in v q r) changed ∙ page_set_here now s p (Some (put now_here.0)) q r qq rr ∙ ap Some now_here.2

  next_beside : (q r : ℕ) → (q ≡ s → r ≡ p → ⊥) → page_in next q r ≡ page_in now q r
  next_beside q r d = ap (λ (v : LedgerView). page_in v q r) changed ∙ page_set_beside now s p (Some (put now_here.0)) q r d

  old_here : (q r : ℕ) → q ≡ s → r ≡ p → page_in old q r ≡ Some own.x
  old_here q r qq rr = ap (λ n. page_in old n r) qq ∙ ap (page_in old s) rr ∙ own_there

  pub some_behind : IsBehind was new old next by
  some_behind = record {
    joined = behind.joined;
    carried = behind.carried;
    keeps = keeps_twice old now next behind.keeps (subst (KeepsSpaces now) (sym changed) (keeps_page_set now s p (Some (put now_here.0)) (there_space now s p now_here.0 now_here.1)));
    pages = λ q r. by_place s p q r
        (λ qq rr. inr (next_here q r qq rr ∙ sym (ap (option_map (went_page by)) (old_here q r qq rr))))
        (λ d. elim (behind.pages q r) [ inl e ↦ inl (next_beside q r d ∙ e) | inr e ↦ inr (next_beside q r d ∙ e) ]);
  }

  pub some_kept : (v : ℕ) → FollowsAt by old now v → FollowsAt by old next v
  some_kept v told q r x e at_x over to = by_place s p q r
      (λ qq rr. next_here q r qq rr ∙ ap (λ y. Some (went_page by y)) (same_Some _ _ (sym (old_here q r qq rr) ∙ at_x)))
      (λ d. next_beside q r d ∙ told q r x e at_x over to)

  pub some_told : FollowsAt by old next unit
  some_told q r x e at_x over to =
      let is = only q r x e at_x over to in
      next_here q r is.0 is.1 ∙ ap (λ y. Some (went_page by y)) (same_Some _ _ (sym (old_here q r is.0 is.1) ∙ at_x))

  pub is_overlaid : IsSome (overlay_at now s p)
  is_overlaid = ap (λ (o : Option PageView). is_some (option_and_then (λ (x : PageView). x.overlay) o)) now_here.1 ∙ now_here.3

-- One unit is told.
pub before_relocate : (was new : Store) (old now : LedgerView) (by : ℕ → ℕ) (unit : ℕ) → IsBehind was new old now by → IsOfPage now (segment_at new unit)
before_relocate was new old now by unit behind = by_option (segment_at new unit)
    (λ none. subst (IsOfPage now) (sym none) tt)
    (λ segment e. subst (IsOfPage now) (sym e) (is_overlaid was new old now by behind unit segment e))

pub after_relocate : (was new : Store) (old now later : LedgerView) (by : ℕ → ℕ) (unit : ℕ) → IsBehind was new old now by → later ≡ relocated now unit (segment_at new unit) → Tells was new old now later by unit (unit + 1)
after_relocate was new old now later by unit behind is_later = subst (λ v. Tells was new old now v by unit (unit + 1)) (sym is_later) (at (segment_at new unit) refl)
  where
    at : (o : Option Segment) → segment_at new unit ≡ o → Tells was new old now (relocated now unit o) by unit (unit + 1)
    at None e = record {
      behind = behind;
      kept = λ v told. told;
      told = λ v low high q r x f at_x over to.
          let mine = behind.joined.held q r x at_x in
          let there = (behind.carried.along f.block.unit (segment_of q r f) (mine.segment f over)).there in
          let here : by f.block.unit ≡ unit = omega (arith, to, low, high) in
          absurd (none-some (segment_of q r f) (sym e ∙ ap (segment_at new) (sym here) ∙ there));
    }
    at (Some segment) e = record {
      behind = some_behind was new old now by behind unit segment e;
      kept = some_kept was new old now by behind unit segment e;
      told = λ v low high. let same : unit ≡ v = omega (arith, low, high) in subst (FollowsAt by old (relocated now unit (Some segment))) same (some_told was new old now by behind unit segment e);
    }

-- further units
pub tells_none : (was new : Store) (old now : LedgerView) (by : ℕ → ℕ) (from : ℕ) → IsBehind was new old now by → Tells was new old now now by from (from + 0)
tells_none was new old now by from behind = record { behind = behind; kept = λ v told. told; told = λ v low high. absurd (omega (arith, low, high)) }

pub tells_more : (was new : Store) (old table now later : LedgerView) (by : ℕ → ℕ) (from i : ℕ) → Tells was new old table now by from (from + i) → Tells was new old now later by (from + i) (from + i + 1) → Tells was new old table later by from (from + (i + 1))
tells_more was new old table now later by from i one two = record {
  behind = two.behind;
  kept = λ v told. two.kept v (one.kept v told);
  told = λ v low high. elim (cases_lt v (from + i)) [ inl h ↦ two.kept v (one.told v low h) | inr h ↦ two.told v h (omega (arith, high)) ];
}

-- All is told.

pub record Went (by : ℕ → ℕ) (old new : LedgerView) : Type 0 where
  pub pages : (q r : ℕ) → page_in new q r ≡ option_map (went_page by) (page_in old q r)
  pub keeps : KeepsSpaces old new

pub all_told : (was new : Store) (old now : LedgerView) (ms : List Move) → IsBehind was new old now (units_after ms) → ((unit : ℕ) → IsTarget ms unit → FollowsAt (units_after ms) old now unit) → Went (units_after ms) old now
all_told was new old now ms behind told = record {
  pages = λ q r. elim (behind.pages q r) [ inl e ↦ at q r e (page_in old q r) refl | inr e ↦ e ];
  keeps = behind.keeps;
}
  where
    over : (q r : ℕ) (x : PageView) → page_in now q r ≡ page_in old q r → page_in old q r ≡ Some x → (o : Option Entry) → x.overlay ≡ o → page_in now q r ≡ Some (went_page (units_after ms) x)
    over q r x same there None none = same ∙ there ∙ ap Some (sym (page_stays (units_after ms) x (λ e h. absurd (none-some e (sym none ∙ h)))))
    over q r x same there (Some f) is = elim (lands ms f.block.unit) [
      | inl stays ↦ same ∙ there ∙ ap Some (sym (page_stays (units_after ms) x (λ e h. subst (λ (g : Entry). units_after ms g.block.unit ≡ g.block.unit) (same_Some _ _ (sym is ∙ h)) stays)))
      | inr target ↦ told (units_after ms f.block.unit) target q r x f there is refl
    ]

    at : (q r : ℕ) → page_in now q r ≡ page_in old q r → (o : Option PageView) → page_in old q r ≡ o → page_in now q r ≡ option_map (went_page (units_after ms)) (page_in old q r)
    at q r same None none = same ∙ none ∙ sym (ap (option_map (went_page (units_after ms))) none)
    at q r same (Some x) there = over q r x same there x.overlay refl ∙ sym (ap (option_map (went_page (units_after ms))) there)

-- an overlay that stays has its block
pub overlay_stays : (ms : List Move) (old now : LedgerView) → Went (units_after ms) old now → (q r : ℕ) (e : Entry) → overlay_at old q r ≡ Some e → IsOutside ms e.block.unit → overlay_at now q r ≡ Some e
unfolding went_page went_overlay entry_in
overlay_stays ms old now so q r e over out =
    ap (option_and_then (λ (x : PageView). x.overlay)) (so.pages q r) ∙ at (page_in old q r)
    ∙ ap (option_map (went_overlay (units_after ms))) over
    ∙ ap (λ u. Some (entry_in e.bits (record { unit = u; order = e.block.order }))) (outside_fixed ms e.block.unit out)
  where
    at : (o : Option PageView) → option_and_then (λ (x : PageView). x.overlay) (option_map (went_page (units_after ms)) o) ≡ option_map (went_overlay (units_after ms)) (option_and_then (λ (x : PageView). x.overlay) o)
    at None = refl
    at (Some x) = refl

lines_went : (by : ℕ → ℕ) (o : Option Entry) → lines_of (option_map (went_overlay by) o) ≡ lines_of o
unfolding went_overlay
lines_went by None = refl
lines_went by (Some e) = refl

some_of : (by : ℕ → ℕ) (x : PageView) (f : Entry) → (went_page by x).overlay ≡ Some f → (P : Entry → Type 0) → ((e : Entry) → x.overlay ≡ Some e → P (went_overlay by e)) → P f
unfolding went_page
some_of by x f is P go = map_from (went_overlay by) x.overlay f is (λ e over same. subst P same (go e over))

-- So the view is that of a memory, with the same state.
module _ {P : List Piece → Type 0} (was new : Store) (old now : LedgerView) (by : ℕ → ℕ) (is : IsJoinedWith P (view_of was old)) (carried : AreCarried was new by) (frames : KeepsFrames was new) (so : Went by old now) where
  went_seen : (q r : ℕ) (x : PageView) → IsHeld was q r x → (line : ℕ) → line < 64 → line_seen new (went_page by x) line ≡ line_seen was x line
  unfolding went_page went_overlay
  went_seen q r x held line low = by_spot x line
      (λ e over has.
      seen_inside new (went_page by x) (went_overlay by e) line (ap (option_map (went_overlay by)) over) has
      ∙ (carried.along e.block.unit (segment_of q r e) (held.segment e over)).lines line has ∙ sym (seen_inside was x e line over has))
      (λ lacks.
      seen_outside new (went_page by x) line (ap (λ l. has_line l line) (lines_went by x.overlay) ∙ lacks)
      ∙ (frames x.entry.frame held.frame).lines line low ∙ sym (seen_outside was x line lacks))

  went_state_page : (q r : ℕ) (x : PageView) → IsHeld was q r x → page_state new (went_page by x) ≡ page_state was x
  unfolding page_state went_page went_overlay
  went_state_page q r x held =
      let lines = lines_same (line_seen new (went_page by x)) (line_seen was x) (went_seen q r x held) in
      let base = lines_same (frame_line new x.entry.frame) (frame_line was x.entry.frame) (frames x.entry.frame held.frame).lines in
      λ i. record { entry = x.entry; own = lines_went by x.overlay i; lines = lines i; base = base i }

  went_held : (q r : ℕ) (x : PageView) → IsHeld was q r x → IsHeld new q r (went_page by x)
  unfolding went_page went_overlay
  went_held q r x held = record {
    number = held.number;
    low = held.low;
    frame = (frames x.entry.frame held.frame).stays;
    segment = λ f over. some_of by x f over (λ g. segment_at new g.block.unit ≡ Some (segment_of q r g)) (λ e is. (carried.along e.block.unit (segment_of q r e) (held.segment e is)).there);
    lined = λ f over. some_of by x f over (λ g. 0 < length g.bits) (λ e is. held.lined e is);
    size = λ f over. some_of by x f over (λ g. 2 ^ g.block.order ≡ class (length g.bits)) (λ e is. held.size e is);
  }

  page_before : (q r : ℕ) (x : PageView) → page_in now q r ≡ Some x → (Q : PageView → Type 0) → ((y : PageView) → page_in old q r ≡ Some y → Q (went_page by y)) → Q x
  page_before q r x there Q go = map_from (went_page by) (page_in old q r) x (sym (so.pages q r) ∙ there) (λ y was_there same. subst Q same (go y was_there))

  went_owned : (unit : ℕ) (segment : Segment) → segment_at new unit ≡ Some segment → IsOwned now unit segment
  unfolding went_page went_overlay
  went_owned unit segment there =
      let from = carried.back unit segment there in
      let own = is.owned from.0 segment from.1 in
      record {
        space = own.space;
        page = own.page;
        x = went_page by own.x;
        overlay = went_overlay by own.overlay;
        there = so.pages own.space own.page ∙ ap (option_map (went_page by)) own.there;
        is = ap (option_map (went_overlay by)) own.is;
        unit_is = ap by own.unit_is ∙ from.2;
        owner = own.owner;
      }

  pub went_state : state_of (view_of new now) ≡ state_of (view_of was old)
  went_state = spaces_alike (state_of (view_of was old)) (state_of (view_of new now)) (state_of (view_of was old))
      (state_keeps (view_of was old) (view_of new now) so.keeps) (keeps_still (state_of (view_of was old)))
      (λ q r. state_page (view_of new now) q r ∙ ap (option_map (page_state new)) (so.pages q r)
      ∙ map_twice (page_state new) (went_page by) (page_state was) (page_in old q r) (λ x e. went_state_page q r x (is.held q r x e)) ∙ sym (state_page (view_of was old) q r))

  pub went_joined : {Q : List Piece → Type 0} → Q new.blocks → IsStore new → units_in new.blocks ≡ units_in was.blocks → free_units new.blocks ≡ free_units was.blocks → IsJoinedWith Q (view_of new now)
  went_joined blocks store whole free = record {
    store = store;
    blocks = blocks;
    frames = omega (arith, is.frames, whole, so.keeps.frames);
    count = omega (arith, is.count, whole, free, same_units);
    numbers = λ q there. is.numbers q (sym (so.keeps.there q) ∙ there);
    zero = subst (IsFrame new) (sym so.keeps.zero_frame) (frames old.zero_frame is.zero).stays;
    zeros = λ line low. ap (λ f. frame_line new f line) so.keeps.zero_frame ∙ (frames old.zero_frame is.zero).lines line low ∙ is.zeros line low;
    held = λ q r x there. page_before q r x there (IsHeld new q r) (λ y was_there. went_held q r y (is.held q r y was_there));
    owned = went_owned;
  }
    where
      same_units : units (ledger_of now) ≡ units (ledger_of old)
      same_units = ap units (sym (state_books (view_of new now)) ∙ ap books went_state ∙ state_books (view_of was old))

-- The store was settled, and the tables came after it.

behind_all : (was new : Store) (old : LedgerView) (ms : List Move) → IsJoinedWith CanSettle (view_of was old) → MakesMoves was ms new → IsBehind was new old old (units_after ms)
behind_all was new old ms joined made = record { joined = joined; carried = made_carries was new ms made; keeps = keeps_still old; pages = λ q r. inl refl }

pub settled_ahead : (was new : Store) (old : LedgerView) (ms : List Move) → IsJoinedWith CanSettle (view_of was old) → MakesMoves was ms new → IsAhead new old
settled_ahead was new old ms joined made = record { was = was; old = old; by = units_after ms; behind = behind_all was new old ms joined made }

module _ (was new : Store) (old now : LedgerView) (ms : List Move) (joined : IsJoinedWith CanSettle (view_of was old)) (made : MakesMoves was ms new) (follows : FollowsAll new old now ms) where
  all_went : Went (units_after ms) old now
  all_went = let told = follows was old (units_after ms) (behind_all was new old ms joined made) in all_told was new old now ms told.0 told.1

  pub settled_moved : IsKept was new → AreSettled new.blocks → Moved (view_of was old) (view_of new now)
  settled_moved kept settled =
      let by = units_after ms in
      let carried = made_carries was new ms made in
      record {
        joined = went_joined was new old now by joined carried kept.frames all_went settled kept.store kept.units kept.free;
        state = went_state was new old now by joined carried kept.frames all_went;
        free = kept.free;
        scratch = kept.scratch;
        frames = kept.frames;
        whole = kept.whole;
      }

  pub settled_few : Ascend 0 4 ms → MovesFew old now
  settled_few ascend = record { moves = ms; ascend = ascend; stay = overlay_stays ms old now all_went }

-- The same after an overlay of one page ended, for all others; and where nothing moved.
pub few_beside : (old mid now : LedgerView) (s p : ℕ) (x : PageView) → page_in old s p ≡ Some x → mid ≡ with_overlay old s p None → MovesFew mid now → MovesFewBeside s p old now
unfolding with_overlay
few_beside old mid now s p x there is few = record {
  moves = few.moves;
  ascend = few.ascend;
  stay = λ q r e d over out. few.stay q r e (ap (λ (t : LedgerView). overlay_at t q r) is ∙ overlay_beside (λ (y : PageView). record { entry = y.entry; overlay = None }) old s p x there q r d ∙ over) out;
}

pub few_none : (s p : ℕ) (v : LedgerView) → MovesFewBeside s p v v
few_none s p v = record { moves = []; ascend = omega arith; stay = λ q r e d over out. over }

-- and where the frame of the page is another one before
pub few_after : (old mid now : LedgerView) (s p : ℕ) → ((q r : ℕ) → (q ≡ s → r ≡ p → ⊥) → overlay_at mid q r ≡ overlay_at old q r) → MovesFewBeside s p mid now → MovesFewBeside s p old now
few_after old mid now s p same few = record { moves = few.moves; ascend = few.ascend; stay = λ q r e d over out. few.stay q r e d (same q r d ∙ over) out }

-- and where the frame of the page is another one then
pub few_framed : (old mid now : LedgerView) (s p : ℕ) → ((q r : ℕ) → (q ≡ s → r ≡ p → ⊥) → overlay_at now q r ≡ overlay_at mid q r) → MovesFewBeside s p old mid → MovesFewBeside s p old now
few_framed old mid now s p same few = record { moves = few.moves; ascend = few.ascend; stay = λ q r e d over out. same q r d ∙ few.stay q r e d over out }

-- what the search takes of these
pub ruleset moved = (before_relocate, made_low, settled_ahead, settled_few, settled_moved, shifted_count, tells_none)
