use Rattle.overlay_pages.proofs.Common.{◌≡◌, ℕ, ◌<◌, Bool, true, false, ◌||◌, ◌&&◌, not, List, Option, Some, refl, option_map, sym, ap, ◌∙◌, arith, option_and_then, PAGE_LINES}
use Rattle.overlay_pages.proofs.Stores.{has_line, Entry, frame_inside, Block}
use Rattle.overlay_pages.proofs.Books.{by_option, by_test, PageEntry, is_alone, map_from, page_in, space_in, PageView, frame_at, ledger_of, lines_of, overlay_at}
use Rattle.overlay_pages.proofs.Views.{FoundLine, FoundPage, Spot, Frame, Segment, is_writable, IsFoundAt, IsFoundPage, IsFoundPageAt, IsSpot, PageState, IsJoined, MemoryView, page_state, state_of, state_page_there}
use Rattle.overlay_pages.proofs.Lending.{writable_outside, writable_segment}

-- Pages and lines that were found, in the tables that they were found in.

-- Lines of a page that was found.

module _ (v : MemoryView) (found : FoundPage) (is : IsFoundPage v.table found) where
  -- one of its own, and another one
  pub own_spot : (line : ℕ) → has_line found.own line ≡ true → IsSpot v.table found.space found.page line (Segment found.block)
  own_spot line has = by_option is.x.overlay
      (λ none. let no : true ≡ false = sym has ∙ ap (λ l. has_line l line) (sym is.own) ∙ ap (λ (o : Option Entry). has_line (lines_of o) line) none in cc)
      (λ overlay some. record {
        x = is.x;
        overlay = overlay;
        there = is.there;
        is = some;
        block_is = is.block overlay some;
        has = ap (λ (o : Option Entry). has_line (lines_of o) line) (sym some) ∙ ap (λ l. has_line l line) is.own ∙ has;
      })

  pub frame_spot : (line : ℕ) → has_line found.own line ≡ false → IsSpot v.table found.space found.page line (Frame found.frame)
  frame_spot line lacks = record { x = is.x; there = is.there; frame_is = is.frame; lacks = ap (λ l. has_line l line) is.own ∙ lacks }

  pub line_found : (line : ℕ) (spot : Spot) → line < PAGE_LINES → IsSpot v.table found.space found.page line spot
      → IsFoundAt v found.space found.page line (record { space = found.space; page = found.page; line = line; perms = found.perms; spot = spot })
  unfolding page_state
  line_found line spot low at = record {
    space_is = refl;
    page_is = refl;
    line_is = refl;
    is = record {
      perms = ap (option_map (λ (x : PageState). x.entry.perms)) (state_page_there v found.space found.page is.x is.there) ∙ ap Some is.perms;
      line = low;
      spot = at;
    };
  }

  -- whether it can be written where it stands
  pub writable_found : (line : ℕ) → (has_line found.own line || found.in_frame) ≡ is_writable (state_of v) found.space found.page line
  writable_found line = by_test (has_line found.own line)
      (λ has. ap (λ b. b || found.in_frame) has ∙ sym (writable_segment v found.space found.page line found.block (own_spot line has)))
      (λ lacks. ap (λ b. b || found.in_frame) lacks ∙ is.in_frame ∙ sym (writable_outside v found.space found.page line found.frame (frame_spot line lacks)))

-- A page that was looked up.

module _ (v : MemoryView) (s p : ℕ) (e : PageEntry) (is : Some e ≡ option_map (λ (x : PageView). x.entry) (page_in v.table s p)) where
  entry_there : (x : PageView) × (page_in v.table s p ≡ Some x) × (x.entry ≡ e)
  entry_there = map_from (λ (x : PageView). x.entry) (page_in v.table s p) e (sym is) (λ x there same. (x, there, same))

  pub frame_in_range : IsJoined v → e.frame < v.table.frames
  frame_in_range joined =
      let x = entry_there in
      let same : x.0.entry.frame ≡ e.frame = ap (λ (k : PageEntry). k.frame) x.2 in
      omega (arith, frame_inside v.store joined.store x.0.entry.frame (joined.held s p x.0 x.1).frame, joined.frames, same)

  pub page_found : (now : MemoryView) (overlay : Option Entry) (own : List ℕ) (block : Block) (in_frame : Bool) → v ≡ now
      → overlay ≡ overlay_at v.table s p → own ≡ lines_of overlay → ((o : Entry) → overlay ≡ Some o → o.block ≡ block)
      → ((page : ℕ) → frame_at now.table s page ≡ Some e.frame → in_frame ≡ (not (space_in now.table s).speculating && is_alone (ledger_of now.table) s page))
      → IsFoundPageAt now s p (record { space = s; page = p; perms = e.perms; frame = e.frame; own = own; block = block; in_frame = in_frame })
  page_found now overlay own block in_frame same overlay_is own_is block_is in_frame_is =
      let x = entry_there in
      let at : page_in now.table s p ≡ Some x.0 = ap (λ (m : MemoryView). page_in m.table s p) (sym same) ∙ x.1 in
      let has : overlay ≡ x.0.overlay = overlay_is ∙ ap (option_and_then (λ (y : PageView). y.overlay)) x.1 in
      record {
        space_is = refl;
        page_is = refl;
        is = record {
          x = x.0;
          there = at;
          perms = ap (λ (k : PageEntry). k.perms) x.2;
          frame = ap (λ (k : PageEntry). k.frame) x.2;
          own = ap lines_of (sym has) ∙ sym own_is;
          block = λ o some. block_is o (has ∙ some);
          in_frame = in_frame_is p (ap (option_map (λ (y : PageView). y.entry.frame)) at ∙ ap (λ (k : PageEntry). Some k.frame) x.2);
        };
      }

-- a line of the page that was looked for
pub of_page : (v : MemoryView) (s p line : ℕ) (page : FoundPage) (found : FoundLine) → IsFoundPageAt v s p page → IsFoundAt v page.space page.page line found
    → IsFoundAt v s p line found
of_page v s p line page found at it = record { space_is = it.space_is ∙ at.space_is; page_is = it.page_is ∙ at.page_is; line_is = it.line_is; is = it.is }
