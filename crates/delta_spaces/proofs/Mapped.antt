use Rattle.std.specs.Prelude.{◌≡◌, ℕ, ◌+◌, ◌<◌, ◌≤◌, Bool, true, false, cond, nat_le, List, [], ◌∷◌, ◌++◌, length, map, take, drop, get_or, Option, Some, None, is_some, refl}
use Rattle.std.proofs.Common.{sym, ap, subst, ◌∙◌, arith, append_assoc, append-nil, length-append}
use Rattle.std.proofs.lemmas.Bool.Decides.{nat_tests}
use Rattle.std.proofs.lemmas.List.{drop_all, length-map, map-append}
use Rattle.std.specs.Option.{option_map}
use Rattle.std.specs.Ordering.{nat_cmp, is_eq}
use Rattle.std.specs.FinMap.{empty, get, get-from_entries, len}
use Rattle.std.specs.FinMap.Entries.{find}
use Rattle.std.specs.Cmp.{nat_cmp_total}
use Rattle.number_maps.specs.Views.{len_viewed}
use Rattle.sizes.specs.declared.TheConstants.{MOST_SPACE_PAGES, PAGE_END}
use Rattle.ovl_io.specs.Memory.{Memory, Page}
use Rattle.ledger.specs.AloneLaws.{are}
use Rattle.ledger.specs.Changes.{imported}
use Rattle.ledger.specs.Ledger.{Holding, holding_at, pages_of}
use Rattle.ledger.specs.LargeLaws.{NoneLarge}
use Rattle.ledger.specs.StoreLaws.{large_there}
use Rattle.page_table.specs.Table.{is_within}
use Rattle.space_maps.specs.Books.{books_absent}
use Rattle.space_maps.specs.Laws.{page_of}
use Rattle.space_maps.specs.Options.{none_by}
use Rattle.space_maps.specs.Spaces.{page_in, put_page, put_pages, space_in}
use Rattle.overlay_pages.specs.Changes.{AreAbsent, whole_page, with_zeros}
use Rattle.overlay_pages.specs.Lines as lines
use Rattle.overlay_pages.specs.Lines.{bytes_in_lines}
use Rattle.overlay_pages.specs.State.{PageState, SpaceState, State, books, held_page, memory_of, seen_page}
use Rattle.overlay_memory.specs.StateMemory.{memory_at}
use Rattle.delta_image.specs.declared.delta.DeltaPage.{DeltaPage}
use Rattle.delta_image.specs.Applied.{applied_page}
use Rattle.delta_image.specs.Fine.{Ascend, IsPlain}
use Rattle.delta_image.specs.Line.{numbers_of}
use Rattle.delta_spaces.specs.Built.{CanMap, HasBegun, HasPut, bare_page, bare_pages, kept_pages, rows_of}
use Rattle.delta_spaces.specs.Finding.{not_found}
use Rattle.delta_spaces.specs.Imported.{import_made, imported_at, is_many, row_at}
use Rattle.delta_spaces.specs.Made.{made_by, same_made}
use Rattle.delta_spaces.proofs.Begun.{bare_applied, begun_more, imported_absent, imported_there, more_put, put_awaiting}
use Rattle.delta_spaces.proofs.Lines.{bytes_absent, zero_bytes}
use Rattle.delta_spaces.proofs.Parts.{Rising, apart_all, apart_at, bare_rising, front_more, front_rising, here, kept_rising, many_pages, part_rising, plain_in, rising, split_at}

-- The pages that the base hasn't are mapped, one after the other.

pub record IsMapping (v w : State) (base to : ℕ) (pages front rest : List DeltaPage) : Type 0 where
  pub whole : pages ≡ front ++ rest
  pub begun : HasBegun v w base to (bare_pages front ++ kept_pages v base rest)
  pub awaiting : (space_in w to).awaiting ≡ empty

pub mapping_none : (w : State) (base to : ℕ) (pages : List DeltaPage) → (can : CanMap w base to pages) → IsMapping can.before w base to pages [] pages
mapping_none w base to pages can = record { whole = refl; begun = can.begun; awaiting = can.awaiting }

bare_append : (front back : List DeltaPage) → bare_pages (front ++ back) ≡ bare_pages front ++ bare_pages back
bare_append front back = map-append bare_page front back

module _ (v w : State) (base to : ℕ) (pages front more : List DeltaPage) (p : DeltaPage) (differ : base ≡ to → ⊥) (bare : pages_of (books v) to ≡ empty) (ascend : Ascend IsPlain 0 pages)
    (so : IsMapping v w base to pages front (p ∷ more)) where
  rise_all : Rising 0 (front ++ p ∷ more)
  rise_all = subst (Rising 0) so.whole (rising 0 pages ascend)

  base_same : (page : ℕ) → page_in w base page ≡ page_in v base page
  base_same page = page_of w base page ∙ ap (λ (s : SpaceState). get s.pages page) (so.begun.beside.others base differ) ∙ sym (page_of v base page)

  appended : pages ≡ (front ++ p ∷ []) ++ more
  appended = so.whole ∙ sym (append_assoc front (p ∷ []) more)

  -- the pages with this one
  with_it : bare_pages (front ++ p ∷ []) ++ kept_pages v base more ≡ bare_pages front ++ bare_page p ∷ kept_pages v base more
  with_it = ap (λ (ps : List DeltaPage). ps ++ kept_pages v base more) (bare_append front (p ∷ [])) ∙ append_assoc (bare_pages front) (bare_page p ∷ []) (kept_pages v base more)

  pub mapping_past : is_some (page_in w base p.page) ≡ true → IsMapping v w base to pages (front ++ p ∷ []) more
  mapping_past there = record {
    whole = appended;
    begun = subst (HasBegun v w base to)
        (ap (λ b. bare_pages front ++ cond b (bare_page p ∷ kept_pages v base more) (kept_pages v base more)) (ap is_some (sym (base_same p.page)) ∙ there) ∙ sym with_it) so.begun;
    awaiting = so.awaiting;
  }

  module _ (absent : is_some (page_in w base p.page) ≡ false) where
    none : page_in v base p.page ≡ None
    none = none_by (page_in v base p.page) (ap is_some (sym (base_same p.page)) ∙ absent)

    without_it : HasBegun v w base to (bare_pages front ++ kept_pages v base more)
    without_it =
        subst (HasBegun v w base to)
        (ap (λ b. bare_pages front ++ cond b (bare_page p ∷ kept_pages v base more) (kept_pages v base more)) (ap is_some none)) so.begun

    rise_bare : Rising 0 (bare_pages front ++ bare_page p ∷ kept_pages v base more)
    rise_bare = front_rising bare_pages (λ q qs. refl) refl 0 front (bare_page p ∷ kept_pages v base more) (at 0 front rise_all)
      where
        at : (from : ℕ) (xs : List DeltaPage) → Rising from (xs ++ p ∷ more) → Rising from (xs ++ bare_page p ∷ kept_pages v base more)
        at from [] rise = (rise.0, kept_rising v base (p.page + 1) more rise.1)
        at from (x ∷ xs) rise = (rise.0, at (x.page + 1) xs rise.1)

    -- it isn't there yet
    pub not_there : page_in w to p.page ≡ None
    not_there = unmapped (page_in w to p.page) (sym (memory_at w to p.page) ∙ ap (λ (m : Memory). get m p.page) without_it.memory
        ∙ get-from_entries nat_cmp_total (map (λ (page : DeltaPage). (page.page, applied_page (memory_of v base) page)) (bare_pages front ++ kept_pages v base more)) p.page
        ∙ ap (find nat_cmp p.page) (split_at (applied_page (memory_of v base)) (bare_pages front) (kept_pages v base more))
        ∙ not_found _ _ (p.page, applied_page (memory_of v base) (bare_page p))
        (apart_at (applied_page (memory_of v base)) (bare_pages front) (kept_pages v base more) (bare_page p) rise_bare))
      where
        unmapped : (o : Option PageState) → option_map seen_page o ≡ None → o ≡ None
        unmapped None e = refl
        unmapped (Some x) e = let no = ap is_some e in cc

    pub is_absent : AreAbsent w to p.page 1
    is_absent page within = ap (page_in w to) (same within) ∙ not_there
      where
        same : is_within p.page 1 page ≡ true → page ≡ p.page
        same e = grind (arith, nat_tests)

    pub low_page : p.page + 1 ≤ PAGE_END
    low_page = let plain = plain_in 0 front more p (subst (Ascend IsPlain 0) so.whole ascend) in omega (arith, plain.low)

    pub few_pages : length pages ≤ MOST_SPACE_PAGES → len (space_in w to).pages + 1 ≤ MOST_SPACE_PAGES
    unfolding memory_of
    few_pages few =
        let parts = bare_pages front ++ kept_pages v base more in
        let seen = len_viewed (λ _ (x : PageState). seen_page x) (space_in w to).pages in
        let memory = ap len without_it.memory in
        let many = many_pages (memory_of v base) parts (only 0 (bare_pages front) rise_bare) in
        let count = length-map {B = ℕ × Page} parts (λ (page : DeltaPage). (page.page, applied_page (memory_of v base) page)) in
        let sum = length-append (bare_pages front) (kept_pages v base more) in
        let bares = length-map front bare_page in
        let kept = kept_few more in
        let all = ap (λ (l : List DeltaPage). length l) so.whole in
        let parts_all = length-append front (p ∷ more) in
        omega (arith, seen, memory, many, count, sum, bares, kept, all, parts_all, few)
      where
        only : (from : ℕ) (xs : List DeltaPage) → Rising from (xs ++ bare_page p ∷ kept_pages v base more) → Rising from (xs ++ kept_pages v base more)
        only from [] rise = Rattle.delta_spaces.proofs.Parts.rising_from from (p.page + 1) (kept_pages v base more) (omega (arith, rise.0)) rise.1
        only from (x ∷ xs) rise = (rise.0, only (x.page + 1) xs rise.1)

        kept_few : (ps : List DeltaPage) → length (kept_pages v base ps) ≤ length ps
        kept_few [] = omega arith
        kept_few (q ∷ qs) = at (is_some (page_in v base q.page)) (kept_few qs)
          where
            at : (b : Bool) → length (kept_pages v base qs) ≤ length qs → length (cond b (bare_page q ∷ kept_pages v base qs) (kept_pages v base qs)) ≤ length (q ∷ qs)
            at true rest = omega (arith, rest)
            at false rest = omega (arith, rest)

    abbrev y : PageState
    y = whole_page (record { perms = p.perms; frame = w.zero_frame }) lines.zero_page

    one_is : with_zeros w to p.page 1 (record { perms = p.perms; frame = w.zero_frame }) ≡ put_page w to p.page y
    unfolding with_zeros put_pages
    one_is = refl

    seen_is : seen_page y ≡ applied_page (memory_of v base) (bare_page p)
    seen_is =
        ap (λ (bytes : List ℕ). record { perms = p.perms.0; bytes = bytes }) (zero_bytes ∙ sym (bytes_absent v base p.page none)) ∙ sym (bare_applied v base p)

    held_is : held_page w.zero_frame y ≡ imported (books v) base p.page []
    held_is =
        ap (λ b. record { origin = cond b 0 (w.zero_frame + 1); own = [] }) (are w.zero_frame w.zero_frame refl)
        ∙ sym (imported_absent (books v) base p.page (books_absent held_page v base p.page none))

    pub mapping_more : (new : State) → new ≡ with_zeros w to p.page 1 (record { perms = p.perms; frame = w.zero_frame }) → IsMapping v new base to pages (front ++ p ∷ []) more
    mapping_more new is = subst (λ (u : State). IsMapping v u base to pages (front ++ p ∷ []) more) (sym (is ∙ one_is)) (record {
      whole = appended;
      begun = subst (HasBegun v _ base to) (sym with_it)
          (begun_more v w _ base to (bare_pages front) (kept_pages v base more) p differ bare rise_bare without_it (more_put v w base to p y seen_is held_is));
      awaiting = put_awaiting w to p.page y ∙ so.awaiting;
    })

pub mapping_all : (v w : State) (base to : ℕ) (pages front : List DeltaPage) → IsMapping v w base to pages front [] → HasBegun v w base to (bare_pages pages)
mapping_all v w base to pages front so =
    subst (λ (ps : List DeltaPage). HasBegun v w base to (bare_pages ps)) (sym (so.whole ∙ append-nil front)) (subst (HasBegun v w base to) (append-nil (bare_pages front)) so.begun)

-- Then no page is large, so that the ledger is that of an import without lines.

module _ (v : State) (base : ℕ) (small : NoneLarge (books v) base) where
  few_of : (page : ℕ) → is_many (Some (imported (books v) base page [])) ≡ false
  few_of page = by_holding (holding_at (books v) base page) refl
    where
      by_holding : (o : Option Holding) → holding_at (books v) base page ≡ o → is_many (Some (imported (books v) base page [])) ≡ false
      by_holding None is = ap (λ (h : Holding). nat_le 32 (length h.own)) (imported_absent (books v) base page is)
      by_holding (Some h) is = ap (λ (h : Holding). nat_le 32 (length h.own)) (imported_there (books v) base page h is) ∙ sym (large_there (books v) base page h is) ∙ small page

  none_many : (pages : List DeltaPage) (page : ℕ) → is_many (imported_at (books v) base (rows_of (bare_pages pages)) page) ≡ false
  none_many [] page = refl
  none_many (p ∷ ps) page = at (is_eq (nat_cmp page p.page)) (none_many ps page)
    where
      at : (b : Bool) → is_many (imported_at (books v) base (rows_of (bare_pages ps)) page) ≡ false
          → is_many (option_map (imported (books v) base page) (cond b (Some []) (row_at (rows_of (bare_pages ps)) page))) ≡ false
      at true rest = few_of page
      at false rest = rest

  pub then_put : (w : State) (to : ℕ) (pages : List DeltaPage) → (base ≡ to → ⊥) → pages_of (books v) to ≡ empty → Ascend IsPlain 0 pages → (space_in w to).awaiting ≡ empty
      → HasBegun v w base to (bare_pages pages) → HasPut v w base to (bare_pages pages)
  then_put w to pages differ bare ascend awaiting so = record {
    memory = so.memory;
    ledger =
        let rows = rows_of (bare_pages pages) in
        same_made (books v) (books w) _ to (imported_at (books v) base rows) (λ r. is_many (imported_at (books v) base rows r))
        (made_by (books v) (books w) to (imported_at (books v) base rows) (λ _. false) so.made (imported_at (books v) base rows) (λ r. is_many (imported_at (books v) base rows r))
        (λ r. none_many pages r) (λ r e. refl))
        (import_made (books v) base to differ bare rows
        (apart_all (λ (page : DeltaPage). numbers_of page.lines) (bare_pages pages) (bare_rising 0 pages (rising 0 pages ascend))));
    awaiting = awaiting;
    mark = so.mark;
    beside = so.beside;
  }

-- The same by the place in the list.

module _ (v w : State) (base to : ℕ) (pages : List DeltaPage) (count : ℕ) where
  pub mapping_at : (page d : DeltaPage) → count < length pages → page ≡ get_or pages count d → IsMapping v w base to pages (take count pages) (drop count pages)
      → IsMapping v w base to pages (take count pages) (page ∷ drop (count + 1) pages)
  mapping_at page d within is so = subst (IsMapping v w base to pages (take count pages)) (here pages count d page within is) so

  pub mapping_next : (page d : DeltaPage) → count < length pages → page ≡ get_or pages count d → IsMapping v w base to pages (take count pages ++ page ∷ []) (drop (count + 1) pages)
      → IsMapping v w base to pages (take (count + 1) pages) (drop (count + 1) pages)
  mapping_next page d within is so =
      subst (λ (front : List DeltaPage). IsMapping v w base to pages front (drop (count + 1) pages)) (sym (front_more pages count d page within is)) so

  pub mapping_end : length pages ≤ count → IsMapping v w base to pages (take count pages) (drop count pages) → HasBegun v w base to (bare_pages pages)
  mapping_end all so = mapping_all v w base to pages (take count pages) (subst (IsMapping v w base to pages (take count pages)) (drop_all count pages all) so)

pub mapping_as : (v w u : State) (base to : ℕ) (pages front rest : List DeltaPage) → u ≡ w → IsMapping v w base to pages front rest → IsMapping v u base to pages front rest
mapping_as v w u base to pages front rest is so = subst (λ s. IsMapping v s base to pages front rest) (sym is) so
