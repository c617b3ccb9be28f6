use Rattle.overlay_pages.proofs.Common.{option_map, ◌≡◌, ℕ, ◌+◌, ◌-◌, ◌<◌, ◌≤◌, Bool, true, false, ◌||◌, ◌&&◌, not, cond, List, [], ◌∷◌, Option, Some, None, IsSome, is_some, length, refl, sym, ap, subst, ◌∙◌, arith, option_and_then, PAGE_LINES}
use Rattle.sizes.specs.declared.TheConstants.{MOST_FRAMES}
use Rattle.overlay_pages.proofs.Stores.{AreLines, has_line, with_line, count_with, Entry, Store, frame_inside}
use Rattle.overlay_pages.proofs.Books.{by_option, class, class_le, class_most, with_lines, put_same, is_alone, KeepsSpaces, books_put_page, books_there, changed_there, keeps_page_put, there_space, page_put_here, page_put_beside, page_in, put_page, space_in, altered_page, LedgerView, PageView, frame_at, holding_of, ledger_of, lines_of, overlay_at, with_overlay}
use Rattle.overlay_pages.proofs.Views.{FoundPage, Fits, PageState, State, books, view_of, brought, is_writable, units_of, with_brought, IsBroughtTo, IsFoundPage, IsJoined, MemoryView, page_state, state_books, state_mark, state_of, state_page_there, state_zero}
use Rattle.overlay_pages.specs.Changes.{frame_but_zero}
use Rattle.ledger.specs.AloneLaws.{alone_same}
use Rattle.overlay_pages.proofs.Bringing.{one_more}
use Rattle.overlay_pages.proofs.Growing.{altered_units}
use Rattle.overlay_pages.proofs.Found.{writable_found}
use Rattle.overlay_pages.proofs.Tables.{brought_overlay}

-- A line that comes into the overlay of a page that was found.

pub rise_up : (n less more : ℕ) → less ≡ class n → more ≡ class (n + 1) → less ≤ more
rise_up n less more less_is more_is = omega (arith, less_is, more_is, class_le n (n + 1) (omega arith))

pub rise_most : (n less more : ℕ) → more ≡ class (n + 1) → more - less ≤ 16
rise_most n less more more_is = omega (arith, more_is, class_most (n + 1))

neither : (a b : Bool) → (a || b) ≡ false → (a ≡ false) × (b ≡ false)
neither true b h = cc
neither false b h = (refl, h)

pub found_there : (table : LedgerView) (found : FoundPage) → IsFoundPage table found → IsSome (page_in table found.space found.page)
found_there table found is = ap is_some is.there

pub found_frame : (table : LedgerView) (found : FoundPage) → IsFoundPage table found → frame_at table found.space found.page ≡ Some found.frame
found_frame table found is = ap (option_map (λ (y : PageView). y.entry.frame)) is.there ∙ ap Some is.frame

pub found_entry : (table : LedgerView) (found : FoundPage) → IsFoundPage table found
    → Some (record { perms = found.perms; frame = found.frame }) ≡ option_map (λ (x : PageView). x.entry) (page_in table found.space found.page)
found_entry table found is = sym (ap (option_map (λ (y : PageView). y.entry)) is.there ∙ (λ i. Some (record { perms = is.perms i; frame = is.frame i })))

module _ (v : MemoryView) (found : FoundPage) (is : IsFoundPage v.table found) where
  at : overlay_at v.table found.space found.page ≡ is.x.overlay
  at = ap (option_and_then (λ (y : PageView). y.overlay)) is.there

  pub found_own : (o : Option Entry) → overlay_at v.table found.space found.page ≡ o → lines_of o ≡ found.own
  found_own o over = ap lines_of (sym over ∙ at) ∙ is.own

  -- whether it is alone, and its frame
  pub found_alone : (space_in (state_of v) found.space).speculating ≡ false → found.in_frame ≡ is_alone (books (state_of v)) found.space found.page
  found_alone settled =
      is.in_frame ∙ ap (λ b. not b && is_alone (ledger_of v.table) found.space found.page) (sym (state_mark v found.space) ∙ settled)
      ∙ ap (λ l. is_alone l found.space found.page) (sym (state_books v))

  pub found_but_zero : (z : ℕ) → z ≡ v.table.zero_frame
      → option_map (λ (x : PageState). frame_but_zero (state_of v).zero_frame x.entry.frame) (page_in (state_of v) found.space found.page) ≡ Some (frame_but_zero z found.frame)
  unfolding page_state
  found_but_zero z zero_is =
      ap (option_map (λ (x : PageState). frame_but_zero (state_of v).zero_frame x.entry.frame)) (state_page_there v found.space found.page is.x is.there)
      ∙ (λ i. Some (frame_but_zero ((state_zero v ∙ sym zero_is) i) (is.frame i)))

  pub found_few : IsJoined v → found.frame < MOST_FRAMES
  found_few joined = omega (arith, frame_inside v.store joined.store is.x.entry.frame (joined.held found.space found.page is.x is.there).frame, joined.store.pieces.few, is.frame)

  -- its overlay: none where it has no own lines
  pub found_bare : (n : ℕ) → n ≡ length found.own → n ≡ 0 → IsJoined v → overlay_at v.table found.space found.page ≡ None
  found_bare n n_is none joined = by_option is.x.overlay
      (λ bare. at ∙ bare)
      (λ e over. absurd (omega (arith, n_is, none, ap length (sym (ap lines_of over) ∙ is.own), (joined.held found.space found.page is.x is.there).lined e over)))

  pub found_overlay : (n : ℕ) → n ≡ length found.own → (n ≡ 0 → ⊥) → overlay_at v.table found.space found.page ≡ Some (record { bits = found.own; block = found.block })
  found_overlay n n_is some = by_option is.x.overlay
      (λ bare. absurd (some (n_is ∙ sym (ap length (sym (ap lines_of bare) ∙ is.own)))))
      (λ e over. let bits : e.bits ≡ found.own = sym (ap lines_of over) ∙ is.own in at ∙ over ∙ (λ i. Some (record { bits = bits i; block = is.block e over i })))

  module _ (line : ℕ) (apart : is_writable (state_of v) found.space found.page line ≡ false) where
    -- a line that can't be written where it stands isn't its own, and is brought
    found_lacks : has_line found.own line ≡ false
    found_lacks = (neither (has_line found.own line) found.in_frame (writable_found v found is line ∙ apart)).0

    found_brings : with_brought (state_of v) found.space found.page (line ∷ []) ≡ altered_page (brought (line ∷ [])) (state_of v) found.space found.page
    found_brings = brought_overlay v found.space found.page (line ∷ []) (sym is.in_frame ∙ (neither (has_line found.own line) found.in_frame (writable_found v found is line ∙ apart)).1)

    pub found_rises : (n less more : ℕ) → AreLines found.own → line < PAGE_LINES → n ≡ length found.own → less ≡ class n → more ≡ class (n + 1)
        → units_of (with_brought (state_of v) found.space found.page (line ∷ [])) ≡ units_of (state_of v) + (more - less)
    unfolding page_state
    found_rises n less more are low n_is less_is more_is =
        let now = altered_units (brought (line ∷ [])) (state_of v) found.space found.page (page_state v.store is.x) (state_page_there v found.space found.page is.x is.there) refl in
        let one : length (with_lines (lines_of is.x.overlay) (line ∷ [])) ≡ n + 1 =
        ap (λ l. length (with_lines l (line ∷ []))) is.own ∙ ap length (one_more found.own line ∙ sym (put_same found.own line are low)) ∙ count_with found.own line are low
        ∙ ap (λ b. length found.own + cond b 0 1) found_lacks ∙ ap (λ k. k + 1) (sym n_is) in
        omega (arith, ap units_of found_brings, now, ap class one, ap (λ l. class (length l)) is.own, ap class n_is, less_is, more_is, rise_up n less more less_is more_is)

-- What brings such a line, where it fits, and what it comes to.
module _ (store : Store) (table : LedgerView) (found : FoundPage) (line : ℕ) (is : IsFoundPage table found)
    (apart : is_writable (state_of (view_of store table)) found.space found.page line ≡ false) where
  pub brings_fits : Fits (with_brought (state_of (view_of store table)) found.space found.page (line ∷ []))
      → Fits (altered_page (brought (line ∷ [])) (state_of (view_of store table)) found.space found.page)
  brings_fits fits = subst Fits (found_brings (view_of store table) found is line apart) fits

  pub brings_state : (now : State) → now ≡ altered_page (brought (line ∷ [])) (state_of (view_of store table)) found.space found.page
      → now ≡ with_brought (state_of (view_of store table)) found.space found.page (line ∷ [])
  brings_state now now_is = now_is ∙ sym (found_brings (view_of store table) found is line apart)

-- The tables once the page has another overlay: that page, and every other one.
module _ (old new : LedgerView) (page : FoundPage) (is : IsFoundPage old page) (e : Entry) (so : new ≡ with_overlay old page.space page.page (Some e)) where
  abbrev y : PageView
  y = record { entry = is.x.entry; overlay = Some e }

  put : new ≡ put_page old page.space page.page y
  unfolding with_overlay
  put = so ∙ changed_there (λ (x : PageView). record { entry = x.entry; overlay = Some e }) old page.space page.page is.x is.there

  frame_same : (q r : ℕ) → (not (space_in old q).speculating && is_alone (ledger_of old) q r) ≡ (not (space_in new q).speculating && is_alone (ledger_of new) q r)
  frame_same q r =
      let keeps : KeepsSpaces old (put_page old page.space page.page y) = keeps_page_put old page.space page.page y (there_space old page.space page.page is.x is.there) in
      let alone = ap (λ l. is_alone l q r) (books_put_page holding_of old page.space page.page y)
      ∙ alone_same (ledger_of old) page.space page.page (holding_of old.zero_frame is.x) (holding_of old.zero_frame y) (books_there holding_of old page.space page.page is.x is.there) refl q r in
      sym (ap (λ (t : LedgerView). not (space_in t q).speculating && is_alone (ledger_of t) q r) put ∙ (λ i. not (keeps.marks q i) && alone i))

  pub brought_to : (line : ℕ) (found : FoundPage) → with_line page.own line ≡ e.bits
      → found ≡ record { space = page.space; page = page.page; perms = page.perms; frame = page.frame; own = with_line page.own line; block = e.block; in_frame = page.in_frame }
      → IsBroughtTo old new page line found
  brought_to line found bits found_is = subst (IsBroughtTo old new page line) (sym found_is) (record {
    space_is = refl;
    page_is = refl;
    own = refl;
    is = record {
      x = y;
      there = ap (λ (t : LedgerView). page_in t page.space page.page) put ∙ page_put_here old page.space page.page y page.space page.page refl refl;
      perms = is.perms;
      frame = is.frame;
      own = sym bits;
      block = λ o some. sym (ap (λ (z : Entry). z.block) (Rattle.overlay_pages.proofs.Common.same_Some e o some));
      in_frame = is.in_frame ∙ frame_same page.space page.page;
    };
    others = λ other apart at. record {
      x = at.x;
      there = ap (λ (t : LedgerView). page_in t other.space other.page) put ∙ page_put_beside old page.space page.page y other.space other.page apart ∙ at.there;
      perms = at.perms;
      frame = at.frame;
      own = at.own;
      block = at.block;
      in_frame = at.in_frame ∙ frame_same other.space other.page;
    };
  })

-- What the search takes of pages that were found.
pub ruleset finds = (found_bare, found_overlay, found_rises, rise_most, rise_up, writable_found)
