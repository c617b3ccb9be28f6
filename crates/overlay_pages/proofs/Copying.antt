use Rattle.overlay_pages.proofs.Common.{◌≡◌, ℕ, ◌+◌, ◌*◌, ◌<◌, ◌≤◌, Bool, true, false, cond, not, ◌&&◌, length, [], IfSome, IsSome, Some, option_map, refl, sym, ap, subst, ◌∙◌, arith, same_Some}
use Rattle.page_table.specs.declared.entry.PageEntry.{PageEntry}
use Rattle.overlay_pages.proofs.Stores.{Entry, FillsFrame, IsFrame, IsSegment, KeepsSegment, Store, frame_inside, frame_line, has_line, line_in, lines_at, lines_there, segment_at, units_in}
use Rattle.overlay_pages.proofs.Books.{LedgerView, PageView, altered_page, frame_at, is_alone, ledger_of, lines_of, map_from, page_put_here, space_in, overlay_at, page_in, with_frame}
use Rattle.overlay_pages.proofs.Views.{FoundPage, IsFoundPage, IsJoined, IsPlaced, PageState, KeepsOtherOverlays, MemoryView, State, copied, discarded, line_seen, page_state, segment_of, state_of, state_page, state_page_there, view_of}
use Rattle.overlay_pages.specs.Spots.{IsFoundPageAt}
use Rattle.overlay_pages.proofs.Steps.{seen_overlaid}
use Rattle.overlay_pages.proofs.Joining.{Has, page_with}
use Rattle.overlay_pages.proofs.Filling.{segments_twice}
use Rattle.overlay_pages.proofs.Committing.{entry_some, frame_some}
use Rattle.overlay_pages.proofs.NewFrames.{TakesFrame, is_copied, is_framed, now_framed, now_overlaid, now_some, others_framed}

-- A page that has an overlay gets a new frame beside it.

-- the frame of a page whose entry is known
pub frame_known : (v : LedgerView) (s p : ℕ) (x : PageView) (entry : PageEntry) → page_in v s p ≡ Some x → Some entry ≡ option_map (λ (y : PageView). y.entry) (page_in v s p) → x.entry.frame ≡ entry.frame
frame_known v s p x entry there known = ap (λ (k : PageEntry). k.frame) (sym (same_Some _ _ (known ∙ ap (option_map (λ (y : PageView). y.entry)) there)))

-- A page that is there with an entry has a frame that is taken.
pub entry_taken : (v : MemoryView) (s p : ℕ) (entry : PageEntry) → IsJoined v → Some entry ≡ option_map (λ (x : PageView). x.entry) (page_in v.table s p) → IsFrame v.store entry.frame
entry_taken v s p entry is known =
    let has = page_with v.table s p (entry_some v.table s p entry known) (overlay_at v.table s p) refl in
    let same : has.x.entry ≡ entry = sym (same_Some _ _ (known ∙ ap (option_map (λ (x : PageView). x.entry)) has.there)) in
    subst (λ (k : PageEntry). IsFrame v.store k.frame) same (is.held s p has.x has.there).frame

-- so it lies in a store that has as many units
pub entry_inside : (v : MemoryView) (taken : Store) (s p : ℕ) (entry : PageEntry) → IsJoined v → Some entry ≡ option_map (λ (x : PageView). x.entry) (page_in v.table s p)
    → units_in taken.blocks ≡ units_in v.store.blocks → 16 * entry.frame + 16 ≤ units_in taken.blocks
entry_inside v taken s p entry is known whole = omega (arith, frame_inside v.store is.store entry.frame (entry_taken v s p entry is known), whole)

module _ (a : MemoryView) (s p : ℕ) (e : Entry) (entry : PageEntry) (is : IsJoined a) (known : Some entry ≡ option_map (λ (x : PageView). x.entry) (page_in a.table s p))
    (over : overlay_at a.table s p ≡ Some e) (taken filled : Store) (frame : ℕ) (takes : TakesFrame a.store taken filled frame (frame_line a.store entry.frame)) where
  abbrev pub own : Has a.table s p (Some e)
  own = page_with a.table s p (entry_some a.table s p entry known) (Some e) over

  entry_is : own.x.entry ≡ entry
  entry_is = sym (same_Some _ _ (known ∙ ap (option_map (λ (x : PageView). x.entry)) own.there))

  was_there : segment_at a.store e.block.unit ≡ Some (segment_of s p e)
  was_there = (is.held s p own.x own.there).segment e own.is

  -- the frame has the lines of the page's own, and the segment stays
  kept : KeepsSegment a.store filled e.block
  kept = segments_twice a.store taken filled takes.segments takes.fills.segments e.block.unit (segment_of s p e) was_there

  pub lay_there : IsSegment filled e.block
  lay_there = record { segment = segment_of s p e; there = kept.there ∙ was_there; order = refl }

  pub lay_bits : lines_at filled e.block.unit ≡ e.bits
  lay_bits = lines_there filled e.block.unit _ (kept.there ∙ was_there)

  -- Its own lines come over those.
  module _ (laid : Store) (lays : FillsFrame filled laid frame)
      (lines : (i : ℕ) → i < 64 → frame_line laid frame i ≡ cond (has_line e.bits i) (line_in filled e.block i) (frame_line filled frame i)) where
    each : (i : ℕ) → i < 64 → frame_line laid frame i ≡ line_seen a.store own.x i
    each i low = lines i low ∙ by (has_line e.bits i) refl ∙ seen_overlaid a.store own.x e i own.is
      where
        by : (b : Bool) → has_line e.bits i ≡ b → cond b (line_in filled e.block i) (frame_line filled frame i) ≡ cond b (line_in a.store e.block i) (frame_line a.store own.x.entry.frame i)
        by true has = kept.lines i (ap (λ l. has_line l i) (lines_there a.store e.block.unit _ was_there) ∙ has)
        by false lacks = takes.lines i low ∙ ap (λ (k : PageEntry). frame_line a.store k.frame i) (sym entry_is)

    pub copies : TakesFrame a.store taken laid frame (line_seen a.store own.x)
    copies = record {
      there = takes.there;
      fresh = takes.fresh;
      same = takes.same;
      segments = takes.segments;
      frames = takes.frames;
      settled = takes.settled;
      free = takes.free;
      whole = takes.whole;
      taken_is = takes.taken_is;
      fills = record {
        blocks = lays.blocks ∙ takes.fills.blocks;
        same = lays.same ∙ takes.fills.same;
        segments = segments_twice taken filled laid takes.fills.segments lays.segments;
        frames = λ other away there.
            let one = takes.fills.frames other away there in
            let two = lays.frames other away one.stays in
            record { stays = two.stays; lines = λ line low. two.lines line low ∙ one.lines line low };
        scratch = λ line low. lays.scratch line low ∙ takes.fills.scratch line low;
        stays = lays.stays;
        store = lays.store;
      };
      lines = each;
    }

    -- The page is on that frame, with its overlay still, and once that ended it is copied.
    module _ (shared : is_alone (ledger_of a.table) s p ≡ false) (table : LedgerView) (table_is : table ≡ with_frame a.table s p frame) where
      pub beside_joined : IsJoined (view_of laid table)
      beside_joined = (is_framed a taken laid table s p own.x frame (line_seen a.store own.x) is own.there shared copies table_is).0

      pub beside_there : IsSome (page_in table s p)
      beside_there = now_some a taken laid table s p own.x frame (line_seen a.store own.x) is own.there shared copies table_is

      pub beside_overlaid : overlay_at table s p ≡ Some e
      beside_overlaid = now_overlaid a taken laid table s p own.x frame (line_seen a.store own.x) is own.there shared copies table_is ∙ own.is

      pub beside_framed : frame_at table s p ≡ Some frame
      beside_framed = now_framed a taken laid table s p own.x frame (line_seen a.store own.x) is own.there shared copies table_is

      pub beside_others : KeepsOtherOverlays s p a.table table
      beside_others = others_framed a.table table s p frame own.x own.there table_is

      pub beside_placed : (new : State) → new ≡ altered_page discarded (state_of (view_of laid table)) s p
          → IfSome (page_in (state_of a) s p) (λ y. IsPlaced (state_of a) new s p (λ f. copied f y))
      unfolding page_state
      beside_placed new ends = is_copied a taken laid table s p own.x frame (line_seen a.store own.x) is own.there shared copies table_is new refl ends

-- It is found so then.
pub found_settled : (old new : MemoryView) (page : FoundPage) (frame : ℕ) (in_frame : Bool) → IsJoined new → IsFoundPage old.table page
    → IfSome (page_in (state_of old) page.space page.page) (λ x. IsPlaced (state_of old) (state_of new) page.space page.page (λ f. copied f x))
    → frame_at new.table page.space page.page ≡ Some frame
    → ((p : ℕ) → frame_at new.table page.space p ≡ Some frame → in_frame ≡ (not (space_in new.table page.space).speculating && is_alone (ledger_of new.table) page.space p))
    → IsFoundPageAt new page.space page.page (record { space = page.space; page = page.page; perms = page.perms; frame = frame; own = []; block = page.block; in_frame = in_frame })
unfolding page_state
found_settled old new page frame in_frame joined is placed framed writes =
    let was = state_page_there old page.space page.page is.x is.there in
    let at : IsPlaced (state_of old) (state_of new) page.space page.page (λ f. copied f (page_state old.store is.x)) =
    subst (λ o. IfSome o (λ x. IsPlaced (state_of old) (state_of new) page.space page.page (λ f. copied f x))) was placed in
    let now = ap (λ v. page_in v page.space page.page) at.placed
    ∙ page_put_here (state_of old) page.space page.page (copied at.frame (page_state old.store is.x)) page.space page.page refl refl in
    map_from (page_state new.store) (page_in new.table page.space page.page) (copied at.frame (page_state old.store is.x))
    (sym (state_page new page.space page.page) ∙ now)
    (λ y there same.
    let bare : lines_of y.overlay ≡ [] = ap (λ (w : PageState). w.own) same in
    record {
      space_is = refl;
      page_is = refl;
      is = record {
        x = y;
        there = there;
        perms = ap (λ (w : PageState). w.entry.perms) same ∙ is.perms;
        frame = same_Some _ _ (sym (ap (option_map (λ (z : PageView). z.entry.frame)) there) ∙ framed);
        own = bare;
        block = λ o over. absurd (omega (arith, (joined.held page.space page.page y there).lined o over, ap length (sym (ap lines_of over) ∙ bare)));
        in_frame = writes page.page framed;
      };
    })

-- the frame of a page is in range
pub framed_inside : (v : MemoryView) (s p frame : ℕ) → IsJoined v → frame_at v.table s p ≡ Some frame → frame < v.table.frames
framed_inside v s p frame joined framed =
    let has = page_with v.table s p (frame_some v.table s p frame framed) (overlay_at v.table s p) refl in
    let same : has.x.entry.frame ≡ frame = same_Some _ _ (sym (ap (option_map (λ (x : PageView). x.entry.frame)) has.there) ∙ framed) in
    omega (arith, frame_inside v.store joined.store has.x.entry.frame (joined.held s p has.x has.there).frame, joined.frames, same)
