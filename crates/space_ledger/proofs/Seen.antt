use Rattle.space_ledger.proofs.Common.{◌≡◌, ℕ, ◌+◌, ◌-◌, ◌^◌, ◌≤◌, ◌<◌, true, false, Option, Some, None, is_some, IsSome, refl, option_and_then, option_map, nat_cmp, sym, ap, subst, subst₂, ◌∙◌, arith, nat_tests, FinMap, empty, get, get-empty, len, LAST_SPACE, PAGE_END}
use Rattle.space_ledger.proofs.Pages.{alike, len_low, get_viewed, len_viewed, holds, AreThere, IsFree, is_within, PageEntry, overlay_page, page_back, space_back}
use Rattle.space_ledger.proofs.Views.{not_true, by_option, map_twice, map_still, none_by, map_some, bare_space, holds_space, page_in, space_in, page_of, space_absent, space_there, there_space, mapped, mapped_at, mapped_holds, mapped_page, mapped_space, Inside, IsFirstPageFrom, IsLeastOverlaid, OverlaidSpace, SpaceTable, LedgerView, PageView, SpaceView, overlay_at, AreBare, ArePagesFree, IsNextOf, IsNextOverlaid, entries_of, AreTables, plain, seen, seen_page, tables_of}

-- What the spaces and the overlays show.

-- what is seen of the tables, and what is true of them
pub record Shows (t : Inside) (v : LedgerView) : Type 0 where
  pub is : seen t ≡ v
  pub own : AreTables t

pub shows : {t : Inside} {v : LedgerView} → seen t ≡ v → AreTables t → Shows t v
shows is own = record { is = is; own = own }

pub some_is : {X : Type 0} (o : Option X) → IsSome o → (x : X) × (o ≡ Some x)
some_is None h = cc
some_is (Some x) h = (x, refl)

abbrev view : ℕ → OverlaidSpace → SpaceTable
view s x = x.table

pub held_at : (spaces : FinMap nat_cmp OverlaidSpace) (s : ℕ) → get (tables_of spaces) s ≡ option_map (λ (x : OverlaidSpace). x.table) (get spaces s)
unfolding tables_of
held_at spaces s = get_viewed view spaces s

-- the page of a space, among those of all
pub plain_at : (t : Inside) (s : ℕ) (x : OverlaidSpace) → get t.spaces s ≡ Some x → (p : ℕ) → page_in (plain t) s p ≡ get x.table.pages p
plain_at t s x at p =
    page_of (plain t) s p ∙ ap (λ (k : SpaceTable). get k.pages p) (space_there (plain t) s x.table (held_at t.spaces s ∙ ap (option_map (λ (k : OverlaidSpace). k.table)) at))

-- a space, with the overlays of its pages
pub space_seen : (t : Inside) (q : ℕ) → get (seen t).spaces q ≡ option_map (λ (x : OverlaidSpace). mapped_space (seen_page t.overlays.entries q) x.table) (get t.spaces q)
unfolding seen
space_seen t q =
    mapped_at (seen_page t.overlays.entries) (plain t) q ∙ ap (option_map (mapped_space (seen_page t.overlays.entries q))) (held_at t.spaces q)
    ∙ map_twice (mapped_space (seen_page t.overlays.entries q)) (λ (x : OverlaidSpace). x.table) (λ (x : OverlaidSpace). mapped_space (seen_page t.overlays.entries q) x.table) (get t.spaces q) (λ x at. refl)

-- a page that is there is one of a space
pub found : (t : Inside) (s p : ℕ) → IsSome (page_in (plain t) s p) → (x : OverlaidSpace) × (get t.spaces s ≡ Some x) × IsSome (get x.table.pages p)
found t s p some = by_option (get t.spaces s)
    (λ none.
    let no = sym some ∙ ap is_some (page_of (plain t) s p)
    ∙ ap (λ (k : SpaceTable). is_some (get k.pages p)) (space_absent (plain t) s (held_at t.spaces s ∙ ap (option_map (λ (k : OverlaidSpace). k.table)) none)) ∙ ap is_some (get-empty {X = PageEntry} nat_cmp p) in cc)
    (λ x at. (x, at, ap is_some (sym (plain_at t s x at p)) ∙ some))

-- each of the pages of a range is bare
pub bare_at : (v : LedgerView) (s from n : ℕ) → AreBare v s from n → (q : ℕ) → is_within from n q ≡ true → IsSome (page_in v s q) × (overlay_at v s q ≡ None)
bare_at v s from n bare q within =
    let low : from ≤ q = grind (arith, nat_tests) in
    let high : q < from + n = grind (arith, nat_tests) in
    let here : from + (q - from) ≡ q = omega (arith, low) in
    subst (λ k. IsSome (page_in v s k) × (overlay_at v s k ≡ None)) here (bare (q - from) (omega (arith, low, high)))

module _ {t : Inside} {v : LedgerView} (is : seen t ≡ v) (own : AreTables t) where
  -- what is asked of spaces and pages
  pub has_is : (q : ℕ) → is_some (get t.spaces q) ≡ holds_space v q
  unfolding seen
  has_is q =
      sym (map_some (λ (x : OverlaidSpace). x.table) (get t.spaces q)) ∙ ap is_some (sym (held_at t.spaces q))
      ∙ sym (mapped_holds (seen_page t.overlays.entries) (plain t) q) ∙ ap (λ (w : LedgerView). holds_space w q) is

  pub page_is : (q p : ℕ) → page_in v q p ≡ option_map (seen_page t.overlays.entries q p) (page_in (plain t) q p)
  unfolding seen
  page_is q p = ap (λ (w : LedgerView). page_in w q p) (sym is) ∙ mapped_page (seen_page t.overlays.entries) (plain t) q p

  pub frames_is : v.frames ≡ t.frames
  unfolding seen mapped
  frames_is = ap (λ (w : LedgerView). w.frames) (sym is)

  pub zero_is : v.zero_frame ≡ t.zero
  unfolding seen mapped
  zero_is = ap (λ (w : LedgerView). w.zero_frame) (sym is)

  pub plain_some : (q p : ℕ) → is_some (page_in v q p) ≡ is_some (page_in (plain t) q p)
  plain_some q p = ap is_some (page_is q p) ∙ map_some (seen_page t.overlays.entries q p) (page_in (plain t) q p)

  -- an overlay stands under the name of its page
  pub overlay_is : (q p : ℕ) → IsSome (page_in v q p) → get t.overlays.entries (overlay_page q p) ≡ option_and_then (λ (x : PageView). x.overlay) (page_in v q p)
  overlay_is q p there = let page = page_is q p in grind (arith, page, there)

  -- a page that is there is in range; one that isn't has no overlay
  pub number_is : (q p : ℕ) → IsSome (page_in v q p) → q ≤ LAST_SPACE
  number_is q p there = let x = some_is (page_in v q p) there in own.numbers q (has_is q ∙ there_space v q p x.0 x.1)

  pub low_is : (q p : ℕ) → IsSome (page_in v q p) → p < PAGE_END
  low_is q p there = let x = found t q p (sym (plain_some q p) ∙ there) in (own.pages q p x.0 x.1 x.2).0

  pub none_placed : (q p : ℕ) → holds_space v q ≡ true → p < PAGE_END → page_in v q p ≡ None → get t.overlays.entries (overlay_page q p) ≡ None
  none_placed q p has low none = none_by (get t.overlays.entries (overlay_page q p)) (not_true (is_some (get t.overlays.entries (overlay_page q p))) (λ some.
      let number = own.numbers q (has_is q ∙ has) in
      let there : IsSome (page_in (plain t) q p) = subst₂ (λ a b. IsSome (page_in (plain t) a b)) (space_back q p (omega (arith, number)) (omega (arith, low))) (page_back q p (omega (arith, number)) (omega (arith, low)))
      (own.placed (overlay_page q p) some).1 in
      let no = sym there ∙ sym (plain_some q p) ∙ ap is_some none in cc))

  -- what isn't there
  pub space_none : (q : ℕ) → None ≡ get t.spaces q → space_in v q ≡ bare_space
  space_none q none = space_absent v q (none_by (get v.spaces q) (sym (has_is q) ∙ ap is_some (sym none)))

  pub no_page_is : (q p : ℕ) → None ≡ get t.spaces q → page_in v q p ≡ None
  no_page_is q p none = page_of v q p ∙ ap (λ (x : SpaceView). get x.pages p) (space_none q none) ∙ get-empty nat_cmp p

-- One space of the tables.
module _ {t : Inside} {v : LedgerView} (is : seen t ≡ v) (own : AreTables t) (s : ℕ) (x : OverlaidSpace) (at : Some x ≡ get t.spaces s) where
  pub space_is : space_in v s ≡ mapped_space (seen_page t.overlays.entries s) x.table
  space_is = space_there v s _ (ap (λ (w : LedgerView). get w.spaces s) (sym is) ∙ space_seen t s ∙ ap (option_map (λ (k : OverlaidSpace). mapped_space (seen_page t.overlays.entries s) k.table)) (sym at))

  pub there_is : holds_space v s ≡ true
  there_is = sym (has_is is own s) ∙ ap is_some (sym at)

  pub awaiting_is : (space_in v s).awaiting ≡ x.table.awaiting
  awaiting_is = ap (λ (k : SpaceView). k.awaiting) space_is

  pub mark_is : (space_in v s).speculating ≡ x.table.speculating
  mark_is = ap (λ (k : SpaceView). k.speculating) space_is

  pub page_at : (p : ℕ) → page_in v s p ≡ option_map (seen_page t.overlays.entries s p) (get x.table.pages p)
  page_at p = page_of v s p ∙ ap (λ (k : SpaceView). get k.pages p) space_is ∙ get_viewed (seen_page t.overlays.entries s) x.table.pages p

  pub entry_at : (p : ℕ) → get x.table.pages p ≡ option_map (λ (y : PageView). y.entry) (page_in v s p)
  entry_at p =
      map_still (λ e. e) (λ e. refl) (get x.table.pages p) ∙ sym (map_twice (λ (y : PageView). y.entry) (seen_page t.overlays.entries s p) (λ e. e) (get x.table.pages p) (λ e is. refl))
      ∙ sym (ap (option_map (λ (y : PageView). y.entry)) (page_at p))

  pub some_at : (p : ℕ) → is_some (get x.table.pages p) ≡ is_some (page_in v s p)
  some_at p = ap is_some (entry_at p) ∙ map_some (λ (y : PageView). y.entry) (page_in v s p)

  pub entry_there : (p : ℕ) → IsSome (page_in v s p) → IsSome (get x.table.pages p)
  entry_there p there = some_at p ∙ there

  pub absent_is : (p : ℕ) → get x.table.pages p ≡ None → page_in v s p ≡ None
  absent_is p none = page_at p ∙ ap (option_map (seen_page t.overlays.entries s p)) none

  -- which pages are overlaid
  pub shown_at : (p : ℕ) → IsSome (page_in v s p) → (p < PAGE_END) × (holds x.overlaid p ≡ is_some (overlay_at v s p))
  shown_at p there = let page = own.pages s p x (sym at) (entry_there p there) in (page.0, page.1 ∙ ap is_some (overlay_is is own s p there))

  -- what is asked of its table: none of its pages, none that awaits, pages that aren't there, and some that are
  pub empty_in : (space_in v s).pages ≡ empty → x.table.pages ≡ empty
  empty_in none = alike _ _ (λ p. none_by (get x.table.pages p) (some_at p ∙ ap is_some (page_of v s p ∙ ap (λ m. get m p) none ∙ get-empty nat_cmp p)) ∙ sym (get-empty nat_cmp p))

  pub free_in : (from n : ℕ) → ArePagesFree v s from n → IsFree x.table.pages from n
  free_in from n free q within = none_by (get x.table.pages q) (some_at q ∙ ap is_some (free q within))

  pub bare_in : (from n : ℕ) → AreBare v s from n → AreThere x.table.pages from n
  bare_in from n bare q within = entry_there q (bare_at v s from n bare q within).0

  -- there is room for the count of as many pages more
  pub room_in : (n : ℕ) → n ≤ PAGE_END → len x.table.pages + n < 2 ^ 32
  room_in n most = let few = len_low PAGE_END x.table.pages (λ q some. (own.pages s q x (sym at) some).0) in omega (arith, few, most)

  -- the next page, the next one that is overlaid, the entries, and how many there are
  pub next_is : (p : ℕ) (found : Option ℕ) → IsFirstPageFrom x.table.pages p found → IsNextOf v s p found
  next_is p None n = λ q from. absent_is q (n q from)
  next_is p (Some k) n = (n.0, sym (some_at k) ∙ n.1, λ q from before. absent_is q (n.2 q from before))

  none_at : (q : ℕ) → (IsSome (get x.table.pages q) → holds x.overlaid q ≡ false) → overlay_at v s q ≡ None
  none_at q lacks = by_option (page_in v s q)
      (λ none. ap (option_and_then (λ (k : PageView). k.overlay)) none)
      (λ k some. let there = ap is_some some in none_by (overlay_at v s q) (sym (shown_at q there).1 ∙ lacks (entry_there q there)))

  pub next_is_overlaid : (p : ℕ) (found : Option ℕ) → IsLeastOverlaid x p found → IsNextOverlaid v s p found
  next_is_overlaid p None next = λ q le. none_at q (next q le)
  next_is_overlaid p (Some q) next = (next.0, sym (shown_at q (sym (some_at q) ∙ next.1)).1 ∙ next.2, λ r le lt. none_at r (next.3 r le lt))

  pub entries_is : x.table.pages ≡ entries_of v s
  unfolding entries_of
  entries_is = alike _ _ (λ q.
      entry_at q ∙ ap (option_map (λ (k : PageView). k.entry)) (page_of v s q)
      ∙ sym (get_viewed (λ page (k : PageView). k.entry) (space_in v s).pages q))

  pub len_is : len x.table.pages ≡ len (space_in v s).pages
  unfolding entries_of
  len_is = ap len entries_is ∙ len_viewed (λ page (k : PageView). k.entry) (space_in v s).pages
