use Rattle.overlay_pages.proofs.Common.{◌≡◌, ℕ, ◌+◌, ◌<◌, true, false, cond, nat_eq, List, [], Some, None, IfSome, IsSome, is_some, refl, sym, ap, subst, ◌∙◌, arith, same_Some, nat_tests, option_and_then, option_map, FRAME_UNITS}
use Rattle.overlay_pages.proofs.Stores.{FillsFrame, AreSettled, free_units, units_in, IsStore, Store, IsFrame, frame_line, KeepsFrame, KeepsFrames, KeepsSegments, frame_inside}
use Rattle.overlay_pages.proofs.Books.{Holding, Ledger, has_origin, holding_at, is_alone, is_unused, with_page, without_page, units, frame_for, units_changed, arent, holder, not_true, unused_from, unused_parts, unused_without, map_from, books_page, books_put_page, changed_there, page_over, page_put_here, set_some, there_space, page_in, altered_page, put_page, put_space, set_page, LedgerView, PageView, frame_at, holding_of, ledger_of, lines_of, overlay_at, with_frame, origin_of}
use Rattle.overlay_pages.proofs.Views.{page_lines, lines_same, PageState, State, books, IsNewFrame, IsPlaced, copied, discarded, moved_to, KeepsOtherOverlays, IsJoined, MemoryView, page_state, state_of, view_of, state_books, state_frames, state_page_there, state_zero}
use Rattle.overlay_pages.proofs.Steps.{seen_bare, segments_same, stepped}
use Rattle.overlay_pages.proofs.Filling.{segments_twice}
use Rattle.overlay_pages.proofs.Overlaying.{overlay_beside}

-- A frame that wasn't taken is named by no page.

origin_named : (z f g : ℕ) → nat_eq (origin_of z g) (f + 1) ≡ true → g ≡ f
origin_named z f g h = grind (arith, nat_tests)

pub nobody_has : (v : LedgerView) (frame : ℕ) → ((q r : ℕ) (y : PageView) → page_in v q r ≡ Some y → y.entry.frame ≡ frame → ⊥) → has_origin (ledger_of v) (frame + 1) ≡ false
nobody_has v frame none = not_true (has_origin (ledger_of v) (frame + 1)) (λ had.
    let h = holder (ledger_of v) (frame + 1) had in
    map_from (holding_of v.zero_frame) (page_in v h.space h.page) h.holding (sym (books_page holding_of v h.space h.page) ∙ h.there)
    (λ y there same. none h.space h.page y there (origin_named v.zero_frame frame y.entry.frame (ap (λ (k : Holding). nat_eq k.origin (frame + 1)) same ∙ h.passes))))

-- A frame that is new where a page is another one was new before, if no page had it.
pub new_still : (st : State) (s p : ℕ) (y : PageState) (frame : ℕ) → (has_origin (books (put_page st s p y)) (frame + 1) ≡ false → has_origin (books st) (frame + 1) ≡ false)
    → IsNewFrame (put_page st s p y) frame → IsNewFrame st frame
unfolding put_page put_space
new_still st s p y frame back fresh =
    let parts = unused_parts (books (put_page st s p y)) (frame + 1) fresh.unused in
    record { inside = fresh.inside; other = fresh.other; unused = unused_from (books st) (frame + 1) parts.0 (back parts.1) }

-- A page gets a new frame.
pub record TakesFrame (old taken filled : Store) (frame : ℕ) (given : ℕ → List ℕ) : Type 0 where
  pub there : IsFrame taken frame
  pub fresh : IsFrame old frame → ⊥
  pub same : taken.segments ≡ old.segments
  pub segments : KeepsSegments old taken
  pub frames : KeepsFrames old taken
  pub settled : AreSettled old.blocks → AreSettled taken.blocks
  pub free : free_units taken.blocks + FRAME_UNITS ≡ free_units old.blocks
  pub whole : units_in taken.blocks ≡ units_in old.blocks
  pub taken_is : IsStore taken
  pub fills : FillsFrame taken filled frame
  pub lines : (i : ℕ) → i < 64 → frame_line filled frame i ≡ given i

pub takes_frame : {old taken filled : Store} {frame : ℕ} (given : ℕ → List ℕ) → IsFrame taken frame → (IsFrame old frame → ⊥) → taken.segments ≡ old.segments → KeepsSegments old taken
    → KeepsFrames old taken → (AreSettled old.blocks → AreSettled taken.blocks) → free_units taken.blocks + FRAME_UNITS ≡ free_units old.blocks → units_in taken.blocks ≡ units_in old.blocks
    → IsStore taken → FillsFrame taken filled frame → ((i : ℕ) → i < 64 → frame_line filled frame i ≡ given i) → TakesFrame old taken filled frame given
takes_frame given there fresh same segments frames settled free whole store fills lines = record {
  there = there;
  fresh = fresh;
  same = same;
  segments = segments;
  frames = frames;
  settled = settled;
  free = free;
  whole = whole;
  taken_is = store;
  fills = fills;
  lines = lines;
}

pub frame_inside_of : (old taken : Store) (table : LedgerView) (frame : ℕ) → IsJoined (view_of old table) → IsFrame taken frame → units_in taken.blocks ≡ units_in old.blocks → IsStore taken → frame < table.frames
frame_inside_of old taken table frame is f whole store = omega (arith, frame_inside taken store frame f, whole, is.frames)

module _ (a : MemoryView) (taken filled : Store) (table : LedgerView) (s p : ℕ) (x : PageView) (frame : ℕ) (given : ℕ → List ℕ) (is : IsJoined a) (there : page_in a.table s p ≡ Some x)
    (shared : is_alone (ledger_of a.table) s p ≡ false) (takes : TakesFrame a.store taken filled frame given) (table_is : table ≡ with_frame a.table s p frame) where
  abbrev pub changed : PageView
  changed = record { entry = record { perms = x.entry.perms; frame = frame }; overlay = x.overlay }

  table_now : table ≡ set_page a.table s p (Some changed)
  unfolding with_frame
  table_now =
      table_is ∙ changed_there (λ (y : PageView). record { entry = record { perms = y.entry.perms; frame = frame }; overlay = y.overlay }) a.table s p x there
      ∙ sym (set_some a.table s p changed)

  pub frame_new : IsNewFrame (state_of a) frame
  frame_new = record {
    inside = omega (arith, frame_inside_of a.store taken a.table frame is takes.there takes.whole takes.taken_is, state_frames a);
    other = λ e. takes.fresh (subst (IsFrame a.store) (sym (e ∙ state_zero a)) is.zero);
    unused = ap (λ (l : Ledger). is_unused l (frame + 1)) (state_books a) ∙ unused_from (ledger_of a.table) (frame + 1) (arent (frame + 1) 0 (λ n. omega (arith, n))) nobody;
  }
    where
      nobody : has_origin (ledger_of a.table) (frame + 1) ≡ false
      nobody = nobody_has a.table frame (λ q r y at_y same. takes.fresh (subst (IsFrame a.store) same (is.held q r y at_y).frame))

  frame_kept : (other : ℕ) → IsFrame a.store other → KeepsFrame a.store filled other
  frame_kept other f =
      let one = takes.frames other f in
      let two = takes.fills.frames other (λ e. takes.fresh (subst (IsFrame a.store) e f)) one.stays in
      record { stays = two.stays; lines = λ line low. two.lines line low ∙ one.lines line low }

  units_now : units (ledger_of table) ≡ units (ledger_of a.table) + 16
  unfolding frame_for
  units_now =
      let l = ledger_of a.table in
      let held : holding_at l s p ≡ Some (holding_of a.table.zero_frame x) = books_page holding_of a.table s p ∙ ap (option_map (holding_of a.table.zero_frame)) there in
      let now : ledger_of table ≡ with_page l s p (holding_of a.table.zero_frame changed) = ap ledger_of (table_now ∙ set_some a.table s p changed) ∙ books_put_page holding_of a.table s p changed in
      let changes = units_changed l s p (holding_of a.table.zero_frame x) (holding_of a.table.zero_frame changed) held in
      let before : frame_for (is_alone l s p) ≡ 0 = ap frame_for shared in
      let zero_no : nat_eq frame a.table.zero_frame ≡ false = arent frame a.table.zero_frame (λ e. takes.fresh (subst (IsFrame a.store) (sym e) is.zero)) in
      let origin : origin_of a.table.zero_frame frame ≡ frame + 1 = ap (λ b. cond b 0 (frame + 1)) zero_no in
      let unused = unused_without l s p (frame + 1) (sym (ap (λ (k : Ledger). is_unused k (frame + 1)) (state_books a)) ∙ frame_new.unused) in
      let after : frame_for (is_unused (without_page l s p) (origin_of a.table.zero_frame frame)) ≡ 16 = ap (λ o. frame_for (is_unused (without_page l s p) o)) origin ∙ ap frame_for unused in
      omega (arith, ap units now, changes, before, after)

  pub is_framed : IsJoined (view_of filled table) × (state_of (view_of filled table) ≡ put_page (state_of a) s p (page_state filled changed))
  unfolding set_page
  is_framed = stepped a (view_of filled table) s p (Some x) (Some changed) is (record {
    there = there_space a.table s p x there;
    low = (is.held s p x there).low;
    was = there;
    table_is = table_now;
    segments = segments_same a.store filled s p x (is.held s p x there) (takes.fills.same ∙ takes.same)
        (λ unit segment _ at_unit. segments_twice a.store taken filled takes.segments takes.fills.segments unit segment at_unit)
        (subst AreSettled (sym takes.fills.blocks) (takes.settled is.blocks)) (ap units_in takes.fills.blocks ∙ takes.whole) takes.fills.store;
    frames = λ other f _. frame_kept other f;
    frame = λ y same. subst (λ (z : PageView). IsFrame filled z.entry.frame) (same_Some changed y same) takes.fills.stays;
    count = omega (arith, is.count, units_now, takes.free, ap free_units takes.fills.blocks, ap units_in takes.fills.blocks, takes.whole);
  })

  now_there : page_in table s p ≡ Some changed
  now_there = ap (λ (v : LedgerView). page_in v s p) (table_now ∙ set_some a.table s p changed) ∙ page_put_here a.table s p changed s p refl refl

  pub now_some : IsSome (page_in table s p)
  now_some = ap is_some now_there

  pub now_overlaid : overlay_at table s p ≡ x.overlay
  now_overlaid = ap (option_and_then (λ (y : PageView). y.overlay)) now_there

  pub now_framed : frame_at table s p ≡ Some frame
  now_framed = ap (option_map (λ (y : PageView). y.entry.frame)) now_there

  -- one that has no overlay
  module _ (bare : x.overlay ≡ None) where
    placed_page : page_state filled changed ≡ moved_to (page_state a.store x) (page_lines given) frame
    unfolding page_state
    placed_page =
        let base = lines_same (frame_line filled frame) given takes.lines in
        let lines = seen_bare filled changed bare ∙ base in
        λ i. record { entry = record { perms = x.entry.perms; frame = frame }; own = lines_of (bare i); lines = lines i; base = base i }

    pub is_placed : (lines : List (List ℕ)) → page_lines given ≡ lines
        → IsJoined (view_of filled table) × IfSome (page_in (state_of a) s p) (λ y. IsPlaced (state_of a) (state_of (view_of filled table)) s p (moved_to y lines))
    is_placed lines same = (
      is_framed.0,
      subst (λ o. IfSome o (λ y. IsPlaced (state_of a) (state_of (view_of filled table)) s p (moved_to y lines))) (sym (state_page_there a s p x there))
          (record { frame = frame; fresh = frame_new; placed = is_framed.1 ∙ ap (put_page (state_of a) s p) (placed_page ∙ ap (λ l. moved_to (page_state a.store x) l frame) same) }),
    )

  -- one that has one, which ends then: its lines are in the frame
  pub is_copied : (new : State) → page_lines given ≡ (page_state a.store x).lines → new ≡ altered_page discarded (state_of (view_of filled table)) s p
      → IfSome (page_in (state_of a) s p) (λ y. IsPlaced (state_of a) new s p (λ f. copied f y))
  unfolding page_state
  is_copied new same ends =
      let base = lines_same (frame_line filled frame) given takes.lines ∙ same in
      let here = ap (λ v. page_in v s p) is_framed.1 ∙ page_put_here (state_of a) s p (page_state filled changed) s p refl refl in
      subst (λ o. IfSome o (λ y. IsPlaced (state_of a) new s p (λ f. copied f y))) (sym (state_page_there a s p x there))
      (record {
        frame = frame;
        fresh = frame_new;
        placed = ends ∙ changed_there discarded (state_of (view_of filled table)) s p (page_state filled changed) here
            ∙ ap (λ v. put_page v s p (discarded (page_state filled changed))) is_framed.1
            ∙ page_over (state_of a) s p (page_state filled changed) (discarded (page_state filled changed))
            ∙ ap (put_page (state_of a) s p) (λ i. record { entry = record { perms = x.entry.perms; frame = frame }; own = []; lines = base i; base = base i });
      })

-- Other pages keep their overlays.
pub others_framed : (v table : LedgerView) (s p frame : ℕ) (x : PageView) → page_in v s p ≡ Some x → table ≡ with_frame v s p frame → KeepsOtherOverlays s p v table
unfolding with_frame
others_framed v table s p frame x there is q r d =
    ap (λ (t : LedgerView). overlay_at t q r) is ∙ overlay_beside (λ y. record { entry = record { perms = y.entry.perms; frame = frame }; overlay = y.overlay }) v s p x there q r d
