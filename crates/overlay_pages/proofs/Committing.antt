use Rattle.overlay_pages.proofs.Common.{option_map, ◌≡◌, ℕ, ◌+◌, ◌<◌, ◌≤◌, true, false, cond, List, [], Some, None, IfSome, IsSome, is_some, refl, sym, ap, subst, ◌∙◌, arith, same_Some, empty}
use Rattle.overlay_pages.proofs.Stores.{has_line, Entry, FillsFrame, Store, composed_line, frame_line, line_in, scratch_line, KeepsFrames}
use Rattle.page_table.specs.declared.entry.PageEntry.{PageEntry}
use Rattle.overlay_pages.proofs.Books.{Ledger, has_origin, holding_at, is_alone, put_again, class_none, origin_with, books_page, books_put_page, keeps_page_put, page_over, page_put_here, map_some, there_space, page_in, put_page, space_in, altered_page, LedgerView, PageView, frame_at, ledger_of, lines_of, overlay_at, changed_there, alone_same}
use Rattle.overlay_pages.proofs.Views.{page_lines, lines_same, PageState, State, books, held_page, HasCopyRoom, IsNewFrame, IsPlaced, committed, copied, discarded, limit_of, moved_to, units_of, IsJoined, MemoryView, line_seen, page_state, state_of, view_of, state_awaiting, state_books, state_holds, state_page_there}
use Rattle.overlay_pages.proofs.Steps.{alone_other, rewritten, seen_bare, composed_seen, seen_overlaid}
use Rattle.overlay_pages.proofs.Joining.{Has, page_with, altered_still}
use Rattle.overlay_pages.proofs.Growing.{altered_units}
use Rattle.overlay_pages.proofs.NewFrames.{new_still}

-- A frame that is a page's alone is filled.

pub filled_up : (v : MemoryView) (new : Store) (s p : ℕ) (x : PageView) (frame : ℕ) → IsJoined v → page_in v.table s p ≡ Some x → x.entry.frame ≡ frame → is_alone (ledger_of v.table) s p ≡ true → FillsFrame v.store new frame
    → IsJoined (view_of new v.table) × (state_of (view_of new v.table) ≡ put_page (state_of v) s p (page_state new x))
filled_up v new s p x frame is there frame_is alone fills = rewritten v new s p x is there (record {
  blocks = fills.blocks;
  same = fills.same;
  store = fills.store;
  segments = λ unit segment _ at_unit. fills.segments unit segment at_unit;
  frames = λ f taken other. fills.frames f (λ same. alone_other v.table s p x there alone f other (same ∙ sym frame_is)) taken;
})

pub bare_committed : (v : MemoryView) (s p : ℕ) → Has v.table s p None → state_of v ≡ altered_page committed (state_of v) s p
unfolding page_state
bare_committed v s p has =
    altered_still committed (state_of v) s p (page_state v.store has.x) (state_page_there v s p has.x has.there) same
  where
    same : committed (page_state v.store has.x) ≡ page_state v.store has.x
    same =
        let lines = seen_bare v.store has.x has.is in
        λ i. record { entry = has.x.entry; own = lines_of (sym has.is i); lines = page_lines (line_seen v.store has.x); base = lines i }

pub commits : (a b c : MemoryView) (s p : ℕ) (x : PageView) → page_in a.table s p ≡ Some x → state_of b ≡ put_page (state_of a) s p (page_state b.store x) → discarded (page_state b.store x) ≡ committed (page_state a.store x)
    → state_of c ≡ altered_page discarded (state_of b) s p → state_of c ≡ altered_page committed (state_of a) s p
commits a b c s p x there b_is same c_is =
    let at_b = ap (λ st. page_in st s p) b_is ∙ page_put_here (state_of a) s p (page_state b.store x) s p refl refl in
    c_is ∙ changed_there discarded (state_of b) s p (page_state b.store x) at_b ∙ ap (λ st. put_page st s p (discarded (page_state b.store x))) b_is
    ∙ page_over (state_of a) s p (page_state b.store x) (discarded (page_state b.store x)) ∙ ap (put_page (state_of a) s p) same
    ∙ sym (changed_there committed (state_of a) s p (page_state a.store x) (state_page_there a s p x there))

pub page_frame : (v : LedgerView) (s p : ℕ) (x : PageView) (frame : ℕ) → page_in v s p ≡ Some x → option_map (λ (y : PageView). y.entry.frame) (page_in v s p) ≡ Some frame → x.entry.frame ≡ frame
page_frame v s p x frame there framed = same_Some _ _ (sym (ap (option_map (λ (y : PageView). y.entry.frame)) there) ∙ framed)

-- a page whose frame, or entry, is known is there
pub frame_some : (v : LedgerView) (s p frame : ℕ) → frame_at v s p ≡ Some frame → IsSome (page_in v s p)
frame_some v s p frame is = sym (map_some (λ (x : PageView). x.entry.frame) (page_in v s p)) ∙ ap is_some is

pub entry_some : (v : LedgerView) (s p : ℕ) (e : PageEntry) → Some e ≡ option_map (λ (x : PageView). x.entry) (page_in v s p) → IsSome (page_in v s p)
entry_some v s p e is = sym (map_some (λ (x : PageView). x.entry) (page_in v s p)) ∙ ap is_some (sym is)

-- A page that is copied: its overlay ends, and it gets a frame with its lines.

-- A page that has an overlay, as the state has it once that ended.
module _ (a : MemoryView) (s p : ℕ) (e : Entry) (is : IsJoined a) (there : IsSome (page_in a.table s p)) (over : overlay_at a.table s p ≡ Some e) where
  abbrev own : Has a.table s p (Some e)
  own = page_with a.table s p there (Some e) over

  abbrev was : PageState
  was = page_state a.store own.x

  was_there : page_in (state_of a) s p ≡ Some was
  was_there = state_page_there a s p own.x own.there

  bare_is : altered_page discarded (state_of a) s p ≡ put_page (state_of a) s p (discarded was)
  bare_is = changed_there discarded (state_of a) s p was was_there

  held_before : holding_at (books (state_of a)) s p ≡ Some (held_page (state_of a).zero_frame was)
  held_before = books_page held_page (state_of a) s p ∙ ap (option_map (held_page (state_of a).zero_frame)) was_there

  pub copy_enough : HasCopyRoom (state_of a) s p → 16 + units_of (altered_page discarded (state_of a) s p) ≤ limit_of (state_of a)
  copy_enough room = omega (arith, altered_units discarded (state_of a) s p was was_there refl, class_none, room was was_there)

  pub copy_shared : (b : MemoryView) → state_of b ≡ altered_page discarded (state_of a) s p → is_alone (ledger_of a.table) s p ≡ false → is_alone (ledger_of b.table) s p ≡ false
  copy_shared b b_state shared =
      ap (λ (l : Ledger). is_alone l s p) (sym (state_books b) ∙ ap books (b_state ∙ bare_is) ∙ books_put_page held_page (state_of a) s p (discarded was))
      ∙ alone_same (books (state_of a)) s p (held_page (state_of a).zero_frame was) (held_page (state_of a).zero_frame (discarded was)) held_before refl s p
      ∙ ap (λ (l : Ledger). is_alone l s p) (state_books a) ∙ shared

  pub copy_settled : (b : MemoryView) → state_of b ≡ altered_page discarded (state_of a) s p → (space_in a.table s).awaiting ≡ empty → (space_in b.table s).awaiting ≡ empty
  copy_settled b b_state none =
      let here = there_space a.table s p own.x own.there in
      sym (state_awaiting b s) ∙ ap (λ (st : State). (space_in st s).awaiting) (b_state ∙ bare_is)
      ∙ (keeps_page_put (state_of a) s p (discarded was) (state_holds a s ∙ here)).awaiting s
      ∙ state_awaiting a s ∙ none

  dropped_page : (b : MemoryView) → state_of b ≡ altered_page discarded (state_of a) s p → page_in (state_of b) s p ≡ Some (discarded was)
  dropped_page b b_state = ap (λ st. page_in st s p) (b_state ∙ bare_is) ∙ page_put_here (state_of a) s p (discarded was) s p refl refl

  -- an origin is unused before where it is unused now
  new_then : (frame : ℕ) → IsNewFrame (put_page (state_of a) s p (discarded was)) frame → IsNewFrame (state_of a) frame
  new_then frame fresh = new_still (state_of a) s p (discarded was) frame (λ none. sym same ∙ none) fresh
    where
      same : has_origin (books (put_page (state_of a) s p (discarded was))) (frame + 1) ≡ has_origin (books (state_of a)) (frame + 1)
      same =
          ap (λ (l : Ledger). has_origin l (frame + 1)) (books_put_page held_page (state_of a) s p (discarded was))
          ∙ origin_with (books (state_of a)) s p (held_page (state_of a).zero_frame (discarded was)) (frame + 1)
          ∙ sym (origin_with (books (state_of a)) s p (held_page (state_of a).zero_frame was) (frame + 1))
          ∙ ap (λ (l : Ledger). has_origin l (frame + 1)) (put_again (books (state_of a)) s p (held_page (state_of a).zero_frame was) held_before)

  -- the lines that were composed are those that the page has
  pub composed_lines_are : (d : MemoryView) (frame : ℕ) → ((i : ℕ) → i < 64 → has_line e.bits i ≡ true → scratch_line d.store i ≡ line_in a.store e.block i)
      → KeepsFrames a.store d.store → own.x.entry.frame ≡ frame → page_lines (composed_line d.store frame e.bits) ≡ was.lines
  unfolding page_state
  composed_lines_are d frame lifted frames frame_is =
      ap (λ f. page_lines (composed_line d.store f e.bits)) (sym frame_is)
      ∙ lines_same (composed_line d.store own.x.entry.frame e.bits) (line_seen a.store own.x) (composed_seen a.store d.store own.x e own.is lifted (frames own.x.entry.frame (is.held s p own.x own.there).frame))

  -- A page that is alone: they come into its frame, and once the overlay ended it is committed.
  pub committing : (new : Store) (frame : ℕ) → own.x.entry.frame ≡ frame → is_alone (ledger_of a.table) s p ≡ true → FillsFrame a.store new frame
      → ((i : ℕ) → i < 64 → frame_line new frame i ≡ cond (has_line e.bits i) (line_in a.store e.block i) (frame_line a.store frame i))
      → IsJoined (view_of new a.table) × ((c : MemoryView) → state_of c ≡ altered_page discarded (state_of (view_of new a.table)) s p → state_of c ≡ altered_page committed (state_of a) s p)
  unfolding page_state
  committing new frame frame_is alone fills lines =
      let filled = filled_up a new s p own.x frame is own.there frame_is alone fills in
      let same = lines_same (frame_line new own.x.entry.frame) (line_seen a.store own.x) (λ i low.
      ap (λ f. frame_line new f i) frame_is ∙ lines i low ∙ ap (λ f. cond (has_line e.bits i) (line_in a.store e.block i) (frame_line a.store f i)) (sym frame_is) ∙ seen_overlaid a.store own.x e i own.is) in (
        filled.0,
        λ c. commits a (view_of new a.table) c s p own.x own.there filled.1 (λ i. record { entry = own.x.entry; own = []; lines = same i; base = same i }),
      )

  pub copied_at : (d new : MemoryView) (lines : List (List ℕ)) → state_of d ≡ altered_page discarded (state_of a) s p → lines ≡ was.lines
      → IfSome (page_in (state_of d) s p) (λ x. IsPlaced (state_of d) (state_of new) s p (moved_to x lines))
      → IfSome (page_in (state_of a) s p) (λ x. IsPlaced (state_of a) (state_of new) s p (λ frame. copied frame x))
  copied_at d new lines d_state lines_are placed =
      subst (λ o. IfSome o (λ x. IsPlaced (state_of a) (state_of new) s p (λ frame. copied frame x))) (sym was_there)
      (let at : IsPlaced (put_page (state_of a) s p (discarded was)) (state_of new) s p (moved_to (discarded was) lines) =
      subst (λ st. IsPlaced st (state_of new) s p (moved_to (discarded was) lines)) (d_state ∙ bare_is)
      (subst (λ o. IfSome o (λ x. IsPlaced (state_of d) (state_of new) s p (moved_to x lines))) (dropped_page d d_state) placed) in
      record {
        frame = at.frame;
        fresh = new_then at.frame at.fresh;
        placed = at.placed ∙ page_over (state_of a) s p (discarded was) (moved_to (discarded was) lines at.frame) ∙ ap (λ l. put_page (state_of a) s p (moved_to was l at.frame)) lines_are;
      })
