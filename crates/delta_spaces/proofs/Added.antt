use Rattle.std.specs.Prelude.{◌≡◌, ℕ, ◌≤◌, Bool, true, false, cond, ◌||◌, nat_eq, List, [], ◌∷◌, length, Option, Some, None, is_some, IsSome, refl}
use Rattle.std.proofs.Common.{sym, ap, subst, ◌∙◌, arith}
use Rattle.std.specs.Option.{option_map, unwrap_or}
use Rattle.std.specs.Ordering.{nat_cmp}
use Rattle.std.specs.FinMap.{empty, get, get-empty, insert, remove}
use Rattle.number_maps.specs.Keys.{alike, by_key, get_other, get_same, removed_other, removed_same}
use Rattle.number_maps.specs.Views.{viewed, viewed_empty}
use Rattle.sizes.specs.declared.TheConstants.{MOST_SPACE_PAGES}
use Rattle.ovl_io.specs.Memory.{Memory}
use Rattle.ovl_io.specs.declared.perms.Perms.{Perms}
use Rattle.ledger.specs.AlikeLaws.{alike_chain}
use Rattle.ledger.specs.AloneLaws.{are, arent}
use Rattle.ledger.specs.LargeLaws.{NoneLarge, large_same}
use Rattle.ledger.specs.Ledger.{Ledger, Space, holding_at, pages_of}
use Rattle.ledger.specs.PlaceLaws.{page_is, pages_absent, pages_beside}
use Rattle.ledger.specs.Units.{units}
use Rattle.page_table.specs.Table.{Pages}
use Rattle.page_table.specs.declared.entry.PageEntry.{PageEntry}
use Rattle.space_maps.specs.Books.{books_awaiting, books_put, books_spaces}
use Rattle.space_maps.specs.Laws.{page_of, put_there, space_beside, space_put}
use Rattle.space_maps.specs.Options.{none_by}
use Rattle.space_maps.specs.Spaces.{bare_space, cut_space, holds_space, page_in, put_awaiting, put_space, space_in}
use Rattle.space_ledger.specs.Calls.{NamesOnce}
use Rattle.overlay_pages.specs.Calls.{entries_in}
use Rattle.overlay_pages.specs.Changes.{limit_of}
use Rattle.overlay_pages.specs.State.{PageState, SpaceState, State, books, held_page, memory_of, seen_page}
use Rattle.overlay_memory.specs.Room.{FitsAfter, event_units}
use Rattle.overlay_memory.specs.StateMemory.{entries_at}
use Rattle.delta_image.specs.declared.delta.Delta.{Delta}
use Rattle.delta_image.specs.declared.delta.DeltaPage.{DeltaPage}
use Rattle.delta_image.specs.Fine.{Ascend, IsPlain}
use Rattle.delta_image.specs.Line.{numbers_of}
use Rattle.delta_spaces.specs.Built.{CanBegin, CanFill, CanMap, HasBegun, HasBuilt, HasPut, IsBeside, awaits_at, awaits_with, bare_pages, built_units, import_of, kept_pages, perms_at, rows_of}
use Rattle.delta_spaces.specs.Imported.{classes, import_units, imported_at}
use Rattle.delta_spaces.specs.Made.{IsMade}
use Rattle.delta_spaces.specs.Rows.{classes_beside, import_beside}
use Rattle.delta_spaces.proofs.Begun.{no_pages}
use Rattle.delta_spaces.proofs.Mapped.{then_put}
use Rattle.delta_spaces.proofs.Put.{none_held}
use Rattle.delta_spaces.proofs.Parts.{apart_all, rising}

-- A space that is put beside the others, and one to which pages await.

twice : (a b : Bool) → (a || (a || b)) ≡ (a || b)
twice true b = refl
twice false b = refl

spaces_put : (v : State) (to : ℕ) (x : SpaceState) (q : ℕ) → holds_space (put_space v to x) q ≡ (nat_eq q to || holds_space v q)
unfolding put_space
spaces_put v to x q = by_key q to
    (λ same. ap is_some (get_same v.spaces to q x same) ∙ sym (ap (λ b. b || holds_space v q) (are q to same)))
    (λ other. ap is_some (get_other v.spaces to q x other) ∙ sym (ap (λ b. b || holds_space v q) (arent q to other)))

pub put_beside : (v : State) (to : ℕ) (x : SpaceState) → IsBeside v (put_space v to x) to
unfolding put_space
put_beside v to x = record { others = λ q other. space_beside v to x q other; spaces = spaces_put v to x; frames = refl; zero_frame = refl }

pub beside_both : (a b c : State) (to : ℕ) → IsBeside a b to → IsBeside b c to → IsBeside a c to
beside_both a b c to one two = record {
  others = λ q other. two.others q other ∙ one.others q other;
  spaces = λ q. two.spaces q ∙ ap (λ b. nat_eq q to || b) (one.spaces q) ∙ twice (nat_eq q to) (holds_space a q);
  frames = two.frames ∙ one.frames;
  zero_frame = two.zero_frame ∙ one.zero_frame;
}

-- what another space has then
module _ (v u : State) (base to : ℕ) (differ : base ≡ to → ⊥) (so : IsBeside v u to) where
  pub memory_same : memory_of u base ≡ memory_of v base
  unfolding memory_of
  memory_same = ap (λ (s : SpaceState). viewed (λ _ (x : PageState). seen_page x) s.pages) (so.others base differ)

  pub entries_same : entries_in u base ≡ entries_in v base
  unfolding entries_in
  entries_same = ap (λ (s : SpaceState). viewed (λ _ (x : PageState). x.entry) s.pages) (so.others base differ)

  pub page_same : (page : ℕ) → page_in u base page ≡ page_in v base page
  page_same page = page_of u base page ∙ ap (λ (s : SpaceState). get s.pages page) (so.others base differ) ∙ sym (page_of v base page)

  pub kept_same : (pages : List DeltaPage) → kept_pages u base pages ≡ kept_pages v base pages
  kept_same [] = refl
  kept_same (p ∷ ps) =
      ap (λ b. cond b (Rattle.delta_spaces.specs.Built.bare_page p ∷ kept_pages u base ps) (kept_pages u base ps)) (ap is_some (page_same p.page))
      ∙ ap (λ (qs : List DeltaPage). cond (is_some (page_in v base p.page)) (Rattle.delta_spaces.specs.Built.bare_page p ∷ qs) qs) (kept_same ps)

  pub there_too : holds_space v base ≡ true → holds_space u base ≡ true
  there_too here = so.spaces base ∙ ap (λ b. b || holds_space v base) (arent base to differ) ∙ here

-- Pages await.

pub adopted_beside : (v u : State) (to : ℕ) (table : Pages) → u ≡ put_awaiting v to table → IsBeside v u to
unfolding put_awaiting
adopted_beside v u to table is = subst (λ w. IsBeside v w to) (sym is) (put_beside v to _)

module _ (v u : State) (base to : ℕ) (pages : List DeltaPage) (table : Pages) (differ : base ≡ to → ⊥) (space : holds_space v to ≡ true) (bare : space_in v to ≡ bare_space)
    (is : u ≡ put_awaiting v to table) where
  so : IsBeside v u to
  so = adopted_beside v u to table is

  space_is : space_in u to ≡ record { pages = (space_in v to).pages; awaiting = table; speculating = (space_in v to).speculating }
  unfolding put_awaiting
  space_is = ap (λ w. space_in w to) is ∙ space_put v to _ to refl

  pub books_same : books u ≡ books v
  books_same = ap (λ w. books w) is ∙ books_awaiting held_page v to table space

  pub adopted_can : holds_space v base ≡ true → (space_in v base).speculating ≡ false → ((page : ℕ) → get table page ≡ awaits_at (entries_in v base) pages page) → Ascend IsPlain 0 pages
      → built_units v base pages ≤ limit_of v → CanBegin u base to pages
  adopted_can there unmarked awaits ascend fits = record {
    differ = differ;
    there = there_too v u base to differ so there;
    unmarked = ap (λ (s : SpaceState). s.speculating) (so.others base differ) ∙ unmarked;
    space = so.spaces to ∙ ap (λ b. b || holds_space v to) (are to to refl);
    empty_is = ap (λ (s : SpaceState). s.pages) space_is ∙ ap (λ (s : SpaceState). s.pages) bare;
    mark = ap (λ (s : SpaceState). s.speculating) space_is ∙ ap (λ (s : SpaceState). s.speculating) bare;
    awaits = λ page. ap (λ (s : SpaceState). get s.awaiting page) space_is ∙ awaits page ∙ ap (λ (m : Pages). awaits_at m pages page) (sym (entries_same v u base to differ so));
    ascend = ascend;
    fits =
        let same = ap units books_same in
        let sums = ap (λ (l : Ledger). classes l base (rows_of pages)) books_same in
        let frames = so.frames in omega (arith, fits, same, sums, frames);
  }

  -- and then they were shared
  pub adopted_begun : (w : State) → HasBegun u w base to (kept_pages u base pages) → HasBegun v w base to (kept_pages v base pages)
  adopted_begun w begun = record {
    memory = begun.memory ∙ ap (λ (m : Memory). Rattle.delta_spaces.specs.Built.applied_pages (kept_pages u base pages) m) (memory_same v u base to differ so)
        ∙ ap (λ (ps : List DeltaPage). Rattle.delta_spaces.specs.Built.applied_pages ps (memory_of v base)) (kept_same v u base to differ so pages);
    made = subst (λ (ps : List DeltaPage). IsMade (books v) (books w) to (imported_at (books v) base (rows_of ps)) (λ _. false)) (kept_same v u base to differ so pages)
        (subst (λ (l : Ledger). IsMade l (books w) to (imported_at l base (rows_of (kept_pages u base pages))) (λ _. false)) books_same begun.made);
    mark = begun.mark;
    beside = beside_both v u w to so begun.beside;
  }

-- the table names no frame twice, as the base's doesn't
pub fitted_once : (zero_frame : ℕ) (old new : Pages) (pages : List DeltaPage) → NamesOnce zero_frame old → ((page : ℕ) → get new page ≡ awaits_at old pages page) → NamesOnce zero_frame new
fitted_once zero_frame old new pages once awaits p q e f at_p at_q same some =
    from_old p e (sym (awaits p) ∙ at_p) (λ d frame there. from_old q f (sym (awaits q) ∙ at_q) (λ g other here.
    once p q d g there here (frame ∙ same ∙ sym other) (λ z. some (sym frame ∙ z))))
  where
    from_old : {P : Type 0} (r : ℕ) (x : PageEntry) → awaits_at old pages r ≡ Some x → ((d : PageEntry) → d.frame ≡ x.frame → get old r ≡ Some d → P) → P
    from_old {P} r x is go = by_perms (perms_at pages r) (get old r) refl is
      where
        by_perms : (o : Option Perms) (d : Option PageEntry) → get old r ≡ d → awaits_with (get old r) o ≡ Some x → P
        by_perms None d at e = let no = ap is_some e in absurd cc
        by_perms (Some perms) None at e =
            let no = sym (ap is_some e) ∙ ap (λ (d : Option PageEntry). is_some {T = PageEntry} (option_map (λ (e : PageEntry). record { perms = perms; frame = e.frame }) d)) at in absurd cc
        by_perms (Some perms) (Some d) at e =
            go d (Rattle.overlay_memory.specs.PageLaws.some_is d.frame x.frame
            (ap (option_map (λ (e : PageEntry). e.frame)) (sym (ap (option_map (λ (e : PageEntry). record { perms = perms; frame = e.frame })) at) ∙ e))) at

-- pages of the base's table are low
pub entry_there : (v : State) (base page : ℕ) (table : Pages) → table ≡ entries_in v base → IsSome (get table page) → IsSome (page_in v base page)
entry_there v base page table is some = at (page_in v base page) (ap is_some (sym (ap (λ (m : Pages). get m page) is ∙ entries_at v base page)) ∙ some)
  where
    at : (o : Option PageState) → is_some (option_map (λ (x : PageState). x.entry) o) ≡ true → is_some o ≡ true
    at None e = e
    at (Some x) e = refl

pub space_there : (v w : State) (to : ℕ) → IsBeside v w to → holds_space w to ≡ true
space_there v w to so = so.spaces to ∙ ap (λ b. b || holds_space v to) (are to to refl)

-- A space that was just made, and gave up again.

pub cut_same : (v w : State) (to : ℕ) → IsBeside v w to → cut_space w to ≡ cut_space v to
unfolding cut_space space_in
cut_same v w to so = λ i. record { spaces = gone i; frames = so.frames i; zero_frame = so.zero_frame i }
  where
    by_space : (a b : Option SpaceState) → is_some a ≡ is_some b → unwrap_or a bare_space ≡ unwrap_or b bare_space → a ≡ b
    by_space None None e f = refl
    by_space None (Some y) e f = cc
    by_space (Some x) None e f = cc
    by_space (Some x) (Some y) e f = ap Some f

    gone : remove w.spaces to ≡ remove v.spaces to
    gone = alike _ _ (λ q. by_key q to
        (λ same. removed_same w.spaces to q same ∙ sym (removed_same v.spaces to q same))
        (λ other. removed_other w.spaces to q other
        ∙ by_space (get w.spaces q) (get v.spaces q) (so.spaces q ∙ ap (λ b. b || holds_space v q) (arent q to other)) (so.others q other)
        ∙ sym (removed_other v.spaces to q other)))

pub cut_put : (v : State) (to : ℕ) → holds_space v to ≡ false → cut_space (put_space v to bare_space) to ≡ v
unfolding put_space cut_space
cut_put v to absent = λ i. record { spaces = gone i; frames = v.frames; zero_frame = v.zero_frame }
  where
    gone : remove (insert v.spaces to bare_space) to ≡ v.spaces
    gone = alike _ _ (λ q. by_key q to
        (λ same. removed_same (insert v.spaces to bare_space) to q same ∙ sym (none_by (get v.spaces to) absent) ∙ ap (get v.spaces) (sym same))
        (λ other. removed_other (insert v.spaces to bare_space) to q other ∙ get_other v.spaces to q bare_space other))

pub two_spaces : (v : State) (base to : ℕ) → holds_space v base ≡ true → holds_space v to ≡ false → base ≡ to → ⊥
two_spaces v base to there absent same = let no = sym there ∙ ap (holds_space v) same ∙ absent in cc

-- the units after it
pub needed_is : (v : State) (base to : ℕ) (delta : Delta) → holds_space v base ≡ true → holds_space v to ≡ false → Ascend IsPlain 0 delta.pages
    → built_units v base delta.pages ≡ event_units (import_of base to delta) v
needed_is v base to delta there absent ascend =
    sym (import_units (books v) base to (two_spaces v base to there absent)
    (pages_absent (books v) to (none_by (get (books v) to) (books_spaces held_page v to ∙ absent))) (rows_of delta.pages)
    (apart_all (λ (page : DeltaPage). numbers_of page.lines) delta.pages (rising 0 delta.pages ascend)))

module _ (v u : State) (base to : ℕ) (there : holds_space v base ≡ true) (absent : holds_space v to ≡ false) (is : u ≡ put_space v to bare_space) where
  differ_from : base ≡ to → ⊥
  differ_from = two_spaces v base to there absent

  pub added_beside : IsBeside v u to
  added_beside = subst (λ w. IsBeside v w to) (sym is) (put_beside v to bare_space)

  pub added_bare : space_in u to ≡ bare_space
  added_bare = ap (λ w. space_in w to) is ∙ space_put v to bare_space to refl

  pub added_there : holds_space u to ≡ true
  added_there = ap (λ w. holds_space w to) is ∙ put_there v to bare_space

  pub added_awaits : (space_in v base).awaiting ≡ empty → (space_in u base).awaiting ≡ empty
  added_awaits none = ap (λ (s : SpaceState). s.awaiting) (added_beside.others base differ_from) ∙ none

  pub added_unmarked : (space_in v base).speculating ≡ false → (space_in u base).speculating ≡ false
  added_unmarked off = ap (λ (s : SpaceState). s.speculating) (added_beside.others base differ_from) ∙ off

  books_are : books u ≡ insert (books v) to empty
  books_are = ap (λ w. books w) is ∙ books_put held_page v to bare_space ∙ ap (insert (books v) to) (viewed_empty (λ _ y. held_page v.zero_frame y))

  spaces_are : (q : ℕ) → (nat_eq q to || is_some (get (books u) q)) ≡ (nat_eq q to || is_some (get (books v) q))
  spaces_are q =
      ap (λ b. nat_eq q to || b) (books_spaces held_page u q ∙ added_beside.spaces q ∙ ap (λ b. nat_eq q to || b) (sym (books_spaces held_page v q)))
      ∙ twice (nat_eq q to) (is_some (get (books v) q))

  held_are : (q r : ℕ) → (q ≡ to → ⊥) → holding_at (books u) q r ≡ holding_at (books v) q r
  held_are q r other =
      ap (λ (l : Ledger). holding_at l q r) books_are ∙ page_is (insert (books v) to empty) q r ∙ ap (λ (m : Space). get m r) (pages_beside (books v) to empty q other)
      ∙ sym (page_is (books v) q r)

  pub added_small : NoneLarge (books v) base → NoneLarge (books u) base
  added_small small page = large_same (books u) (books v) base page (held_are base page differ_from) ∙ small page

  pages_absent_in : pages_of (books v) to ≡ empty
  pages_absent_in = pages_absent (books v) to (none_by (get (books v) to) (books_spaces held_page v to ∙ absent))

  pages_none_in : pages_of (books u) to ≡ empty
  pages_none_in = no_pages u to (ap (λ (s : SpaceState). s.pages) added_bare)

  pub added_fits : (pages : List DeltaPage) → built_units v base pages ≤ limit_of v → built_units u base pages ≤ limit_of u
  added_fits pages fits =
      let sums = classes_beside (books u) (books v) base to differ_from spaces_are held_are (rows_of pages) in
      let frames = added_beside.frames in
      let same = units_are in
      omega (arith, fits, sums, frames, same)
    where
      units_are : units (books u) ≡ units (books v)
      units_are =
          ap units books_are
          ∙ Rattle.ledger.specs.TallyLaws.same_units (insert (books v) to empty) (remove (books v) to) (Rattle.ledger.specs.TallyLaws.empty_holdings (books v) to empty refl)
          ∙ ap units (Rattle.number_maps.specs.Values.remove_absent (books v) to (none_by (get (books v) to) (books_spaces held_page v to ∙ absent)))

  -- and what it has at last
  pub added_built : (w : State) (delta : Delta) → Ascend IsPlain 0 delta.pages → HasPut u w base to delta.pages → HasBuilt v w base to delta
  added_built w delta ascend put = record {
    memory = put.memory ∙ ap (λ (m : Memory). Rattle.delta_spaces.specs.Built.applied_pages delta.pages m) (memory_same v u base to differ_from added_beside);
    ledger = alike_chain _ _ _ put.ledger
        (import_beside (books u) (books v) base to differ_from spaces_are held_are (rows_of delta.pages)
        (apart_all (λ (page : DeltaPage). numbers_of page.lines) delta.pages (rising 0 delta.pages ascend)) pages_none_in pages_absent_in);
    awaiting = put.awaiting;
    mark = put.mark;
    beside = beside_both v u w to added_beside put.beside;
  }

-- What the calls one after the other ask.

pub no_page : (v : State) (to : ℕ) → space_in v to ≡ bare_space → (q : ℕ) → page_in v to q ≡ None
no_page v to bare q = page_of v to q ∙ ap (λ (s : SpaceState). get s.pages q) bare ∙ get-empty {X = PageState} nat_cmp q

abbrev pub can_map : (v w : State) (base to : ℕ) (pages : List DeltaPage) → (base ≡ to → ⊥) → space_in v to ≡ bare_space
    → HasBegun v w base to (kept_pages v base pages) × ((space_in w to).awaiting ≡ empty) → Ascend IsPlain 0 pages → length pages ≤ MOST_SPACE_PAGES → CanMap w base to pages
can_map v w base to pages differ bare begun ascend few = record {
  before = v;
  differ = differ;
  bare = no_page v to bare;
  begun = begun.0;
  awaiting = begun.1;
  ascend = ascend;
  few = few;
}

abbrev pub can_fill : (v w : State) (base to : ℕ) (pages : List DeltaPage) → (base ≡ to → ⊥) → space_in v to ≡ bare_space → NoneLarge (books v) base
    → HasBegun v w base to (bare_pages pages) → (space_in w to).awaiting ≡ empty → Ascend IsPlain 0 pages → built_units v base pages ≤ limit_of v → CanFill w to pages
can_fill v w base to pages differ bare small begun awaiting ascend fits = record {
  before = v;
  base = base;
  differ = differ;
  bare = no_page v to bare;
  put = then_put v base small w to pages differ (none_held v to (no_page v to bare)) ascend awaiting begun;
  ascend = ascend;
  fits = fits;
}

-- How the call comes out, by what it found before.

module _ (v : State) (base to : ℕ) (delta : Delta) (pages : List DeltaPage) (n : ℕ) (there : holds_space v base ≡ true) (absent : holds_space v to ≡ false)
    (ascend : Ascend IsPlain 0 delta.pages) (same : pages ≡ delta.pages) (is : n ≡ built_units v base pages) where
  pub found_needed : n ≡ event_units (import_of base to delta) v
  found_needed = is ∙ ap (λ (ps : List DeltaPage). built_units v base ps) same ∙ needed_is v base to delta there absent ascend

  pub found_fits : n ≤ limit_of v → FitsAfter (import_of base to delta) v
  found_fits le = let needed = found_needed in omega (arith, needed, le)

  pub added_room : (u : State) → u ≡ put_space v to bare_space → n ≤ limit_of v → built_units u base pages ≤ limit_of u
  added_room u made le = added_fits v u base to there absent made pages (omega (arith, is, le))

  pub found_built : (u w : State) → u ≡ put_space v to bare_space → HasPut u w base to pages → HasBuilt v w base to delta
  found_built u w made put =
      added_built v u base to there absent made w delta ascend (subst (HasPut u w base to) same put)
