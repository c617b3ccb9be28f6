use Rattle.std.proofs.Common.{◌≡◌, ℕ, zero, suc, ◌+◌, ◌≤◌, ◌⊎◌, inl, inr, Bool, true, false, List, [], length, Option, Some, None, is_some, sym, ap, subst, ◌∙◌, refl, arith}
use Rattle.std.specs.Prelude.{IsSome, IfSome, Result, Ok, Err, nat_lt}
use Rattle.std.proofs.lemmas.Bool.Decides.{nat_tests}
use Rattle.std.specs.Option.{option_map, option_map_or}
use Rattle.std.specs.Ordering.{nat_cmp}
use Rattle.std.specs.FinMap.{empty, get, get-empty, remove}
use Rattle.number_maps.specs.Keys.{by_key, removed_other, removed_same}
use Rattle.page_table.specs.declared.entry.PageEntry.{PageEntry}
use Rattle.page_table.specs.Table.{Pages, is_within}
use Rattle.ledger.specs.LargeLaws.{NoneLarge}
use Rattle.ledger.specs.Ledger.{Holding, holding_at}
use Rattle.overlay_pages.specs.Calls.{AreMapped, AreShared, AwaitBare, entries_in, with_line_at_place}
use Rattle.overlay_pages.specs.Calls.AreShared.{Still, Then}
use Rattle.overlay_pages.specs.Changes.{IsPlaced, with_shared, with_zeros, shared_page, whole_page}
use Rattle.overlay_pages.specs.Lines.{zero_page}
use Rattle.overlay_pages.specs.State.{PageState, SpaceState, State, books, held_page}
use Rattle.overlay_pages.specs.View as seen
use Rattle.overlay_pages.specs.View.{MemoryView, page_state}
use Rattle.overlay_pages.specs.SharedLaws.{own_in, still_bare}
use Rattle.overlay_pages.specs.ViewLaws.{state_awaiting, state_mark, state_page, state_page_some}
use Rattle.overlay_memory.specs.Access.{IsStored, Stores}
use Rattle.overlay_memory.specs.declared.error.MemoryError.{MemoryError}
use Rattle.overlay_memory.specs.declared.error.MemoryError.TheVariants.{Unmapped, Forbidden, Full}
use Rattle.overlay_memory.specs.PageLaws.{HasPage, has_page, held_there, some_is}
use Rattle.overlay_memory.specs.Pieces.{KeepsAllElse, IsFilled, emptied_space}
use Rattle.overlay_memory.specs.SmallLaws.{small_own, small_stored}
use Rattle.overlay_memory.specs.StateMemory.{entries_at, same_pages}
use Rattle.overlay_memory.specs.View.{AreOverlaysSmall, AreTranslated, AreTrue, AwaitApart, TranslatedView, cached_in, cached_page, state_of, translations_of}
use Rattle.space_ledger.specs.View.{PageView}
use Rattle.space_maps.specs.Laws.{KeepsSpaces, are_cut, are_put, changed_there, in_space, keeps_page_put, page_absent, page_added, page_awaited, page_marked, page_of, page_put_beside, page_put_here, page_shared_beside, page_shared_here, space_absent, space_beside, space_left, space_put, there_space}
use Rattle.space_maps.specs.Options.{by_test, map_from, none_by}
use Rattle.space_maps.specs.Spaces.{bare_space, cut_pages, cut_space, holds_space, of_pages, page_in, put_awaiting, put_mark, put_page, put_pages, put_shared, put_space, space_in, altered_page}
use Rattle.translation_cache.specs.Bare.{bare, bare_flushed}
use Rattle.translation_cache.specs.Finding.{flushed_none, found_flushed, found_none, found_unflushed}
use Rattle.translation_cache.specs.Formed.{IsFormed}
use Rattle.translation_cache.specs.Translations.{Translations, flushed, found, no_translations}
use Rattle.translation_cache.specs.declared.cached.Cached.{Cached}

-- What changes of pages leave of it that each entry is true, and that no page that awaits is there.

-- Entries.

-- all pages are as they were
pub true_same : (old new : State) (t : Translations Cached) → ((q r : ℕ) → cached_in new q r ≡ cached_in old q r) → AreTrue old t → AreTrue new t
true_same old new t same entries q r held is = same q r ∙ entries q r held is

-- those that were there are
pub true_kept : (old new : State) (t : Translations Cached) → ((q r : ℕ) (x : PageState) → page_in old q r ≡ Some x → page_in new q r ≡ Some x) → AreTrue old t → AreTrue new t
true_kept old new t kept entries q r held is = by_page (page_in old q r) refl
  where
    by_page : (o : Option PageState) → page_in old q r ≡ o → cached_in new q r ≡ Some held
    by_page None none = let no_page = ap is_some (sym (ap (option_map cached_page) none) ∙ entries q r held is) in cc
    by_page (Some x) there = ap (option_map cached_page) (kept q r x there ∙ sym there) ∙ entries q r held is

-- those of all other spaces are, and the entries of one were removed
pub true_flushed : (old new : State) (s : ℕ) (t : Translations Cached) → ((q r : ℕ) → (q ≡ s → ⊥) → page_in new q r ≡ page_in old q r) → AreTrue old t
    → AreTrue new (flushed s t)
true_flushed old new s t beside entries q r held is = by_key q s
    (λ same. let gone = sym (ap (λ n. found n r (flushed s t)) same ∙ found_flushed s r t) ∙ is in absurd (no_entry held gone))
    (λ other. ap (option_map cached_page) (beside q r other) ∙ entries q r held (sym (found_unflushed s q r t other) ∙ is))
  where
    no_entry : (x : Cached) → None ≡ Some x → ⊥
    no_entry x e = let none = ap is_some e in cc

-- a space without pages has no entry
pub no_entries : (v : State) (s : ℕ) (t : Translations Cached) → (space_in v s).pages ≡ empty → AreTrue v t → (page : ℕ) → found s page t ≡ None
no_entries v s t none entries page = by_found (found s page t) refl
  where
    by_found : (o : Option Cached) → found s page t ≡ o → o ≡ None
    by_found None is = refl
    by_found (Some held) is =
        let no_page = sym (ap is_some (entries s page held is))
        ∙ ap (λ (o : Option PageState). is_some (option_map cached_page o)) (page_of v s page ∙ ap (λ m. get m page) none ∙ get-empty {X = PageState} nat_cmp page) in cc

-- so to remove its entries is to remove none
pub nothing_flushed : (s : ℕ) (view old : TranslatedView) (new : Translations Cached) → view ≡ old → new ≡ flushed s view.cache → IsFormed view.cache
    → (space_in (state_of view) s).pages ≡ empty → AreTrue (state_of view) view.cache → bare new ≡ translations_of old
nothing_flushed s view old new same is formed none entries =
    ap bare (is ∙ flushed_none s view.cache formed (no_entries (state_of view) s view.cache none entries)) ∙ ap translations_of same

-- Pages that await.

pub apart_by : (old new : State) (s : ℕ) → AwaitApart old → ((q : ℕ) → (q ≡ s → ⊥) → (space_in new q).awaiting ≡ (space_in old q).awaiting)
    → ((q r : ℕ) → (q ≡ s → ⊥) → page_in new q r ≡ page_in old q r)
    → ((r : ℕ) → is_some (page_in new s r) ≡ true → get (space_in new s).awaiting r ≡ None) → AwaitApart new
apart_by old new s apart awaiting pages here q r there = by_key q s
    (λ same. ap (λ n. get (space_in new n).awaiting r) same ∙ here r (sym (ap (λ n. is_some (page_in new n r)) same) ∙ there))
    (λ other. ap (λ m. get m r) (awaiting q other) ∙ apart q r (sym (ap is_some (pages q r other)) ∙ there))

-- none of a space does
pub none_awaits : (v : State) (s : ℕ) → (space_in v s).awaiting ≡ empty → (r : ℕ) → get (space_in v s).awaiting r ≡ None
none_awaits v s settled r = ap (λ m. get m r) settled ∙ get-empty {X = PageEntry} nat_cmp r

-- those that await are the same, and no more pages are there
pub apart_same : (old new : State) → AwaitApart old → ((q : ℕ) → (space_in new q).awaiting ≡ (space_in old q).awaiting)
    → ((q r : ℕ) → is_some (page_in new q r) ≡ true → is_some (page_in old q r) ≡ true) → AwaitApart new
apart_same old new apart awaiting pages q r there = ap (λ m. get m r) (awaiting q) ∙ apart q r (pages q r there)

-- Small overlays.

-- what each page is: as it was, or without own lines
pub small_by : (old new : State) → AreOverlaysSmall old
    → ((q r : ℕ) (x : PageState) → page_in new q r ≡ Some x → (space_in new q).speculating ≡ false → (length x.own ≤ 31) ⊎ ((page_in old q r ≡ Some x) × ((space_in old q).speculating ≡ false)))
    → AreOverlaysSmall new
small_by old new small pages q r x there off = at (pages q r x there off)
  where
    at : (length x.own ≤ 31) ⊎ ((page_in old q r ≡ Some x) × ((space_in old q).speculating ≡ false)) → length x.own ≤ 31
    at (inl few) = few
    at (inr same) = small q r x same.0 same.1

-- pages of one space changed, and no mark
pub small_but : (old new : State) (s : ℕ) → AreOverlaysSmall old → ((q : ℕ) → (space_in new q).speculating ≡ (space_in old q).speculating)
    → ((q r : ℕ) → (q ≡ s → ⊥) → page_in new q r ≡ page_in old q r)
    → ((r : ℕ) (x : PageState) → page_in new s r ≡ Some x → (length x.own ≤ 31) ⊎ (page_in old s r ≡ Some x)) → AreOverlaysSmall new
small_but old new s small marks beside here = small_by old new small (λ q r x there off. by_key q s
    (λ same. with_mark q r x (sym (marks q) ∙ off) same (here r x (sym (ap (λ n. page_in new n r) same) ∙ there)))
    (λ other. inr (sym (beside q r other) ∙ there, sym (marks q) ∙ off)))
  where
    with_mark : (q r : ℕ) (x : PageState) → (space_in old q).speculating ≡ false → q ≡ s → (length x.own ≤ 31) ⊎ (page_in old s r ≡ Some x)
        → (length x.own ≤ 31) ⊎ ((page_in old q r ≡ Some x) × ((space_in old q).speculating ≡ false))
    with_mark q r x off same (inl few) = inl few
    with_mark q r x off same (inr is) = inr (ap (λ n. page_in old n r) same ∙ is, off)

-- a page was put that is small
pub small_put : (old : State) (s p : ℕ) (x : PageState) → holds_space old s ≡ true → length x.own ≤ 31 → AreOverlaysSmall old → AreOverlaysSmall (put_page old s p x)
small_put old s p x holds few small = small_but old (put_page old s p x) s small (keeps_page_put old s p x holds).marks
    (λ q r other. page_put_beside old s p x q r (λ same within. other same))
    (λ r y there. by_key r p
    (λ same. inl (subst (λ z. length z.own ≤ 31) (some_is x y (sym (page_put_here old s p x s r refl same) ∙ there)) few))
    (λ other. inr (sym (page_put_beside old s p x s r (λ one two. other two)) ∙ there)))

-- What each change leaves.

-- the entries of a space were removed, and nothing else
pub forgotten_translated : (v : State) (s : ℕ) (t : Translations Cached) → AreTranslated v t → AreTranslated v (flushed s t)
forgotten_translated v s t all = record { entries = true_flushed v v s t (λ q r other. refl) all.entries; apart = all.apart; small = all.small }

-- the entries of a space were removed
pub flushed_lists : (s : ℕ) (view old : TranslatedView) (new : Translations Cached) → view ≡ old → new ≡ flushed s view.cache
    → bare new ≡ flushed s (translations_of old)
flushed_lists s view old new same is = ap bare is ∙ bare_flushed s view.cache ∙ ap (λ (m : TranslatedView). flushed s (translations_of m)) same

pub with_cache : (v : State) (t u : Translations Cached) → u ≡ t → AreTranslated v t → AreTranslated v u
with_cache v t u same is = subst (AreTranslated v) (sym same) is

pub none_translated : (v : State) → v.spaces ≡ empty → AreTranslated v no_translations
none_translated v none = record {
  entries = λ q r held is. absurd (no_entry q r held is);
  apart = λ q r there. absurd (no_page q r there);
  small = λ q r x there off. absurd (no_page q r (ap is_some there));
}
  where
    no_entry : (q r : ℕ) (x : Cached) → found q r no_translations ≡ Some x → ⊥
    no_entry q r x e = let none = ap is_some (sym (found_none q r) ∙ e) in cc

    no_page : (q r : ℕ) → is_some (page_in v q r) ≡ true → ⊥
    no_page q r there =
        let at = has_page v q r there in
        let holds = sym (there_space v q r at.x at.there) ∙ ap (λ m. is_some (get m q)) none ∙ ap is_some (get-empty {X = SpaceState} nat_cmp q) in cc

pub same_translated : (old new : State) (t : Translations Cached) → new ≡ old → AreTranslated old t → AreTranslated new t
same_translated old new t same is = subst (λ v. AreTranslated v t) (sym same) is

-- a space added
pub added_translated : (old new : State) (s : ℕ) (t : Translations Cached) → new ≡ put_space old s bare_space → holds_space old s ≡ false → AreTranslated old t
    → AreTranslated new t
added_translated old new s t is absent all = same_translated (put_space old s bare_space) new t is (record {
  entries = true_kept old (put_space old s bare_space) t (λ q r x there. page_added old s absent q r ∙ there) all.entries;
  apart =
      apart_by old (put_space old s bare_space) s all.apart
      (λ q other. ap (λ (x : SpaceState). x.awaiting) (space_beside old s bare_space q other))
      (λ q r other. page_added old s absent q r)
      (λ r there. none_awaits (put_space old s bare_space) s (ap (λ (x : SpaceState). x.awaiting) (space_put old s bare_space s refl)) r);
  small = small_by old (put_space old s bare_space) all.small (λ q r x there off. inr (
    sym (page_added old s absent q r) ∙ there,
    by_key q s
        (λ same. ap (λ n. (space_in old n).speculating) same ∙ ap (λ (y : SpaceState). y.speculating) (space_absent old s (none_by (get old.spaces s) absent)))
        (λ other. ap (λ (y : SpaceState). y.speculating) (sym (space_beside old s bare_space q other)) ∙ off),
  ));
})

-- a space gone, and one without its pages
pub cut_translated : (old new : State) (s : ℕ) (t : Translations Cached) → new ≡ cut_space old s → AreTranslated old t → AreTranslated new (flushed s t)
unfolding cut_space
cut_translated old new s t is all = same_translated (cut_space old s) new (flushed s t) is (record {
  entries = true_flushed old (cut_space old s) s t left all.entries;
  apart =
      apart_by old (cut_space old s) s all.apart (λ q other. ap (λ (x : SpaceState). x.awaiting) (space_left old s q other)) left
      (λ r there. absurd (no_page r there));
  small = small_by old (cut_space old s) all.small (λ q r x there off. by_key q s
      (λ same. absurd (no_page r (ap is_some (sym (ap (λ n. page_in (cut_space old s) n r) same) ∙ there))))
      (λ other. inr (sym (left q r other) ∙ there, ap (λ (y : SpaceState). y.speculating) (sym (space_left old s q other)) ∙ off)));
})
  where
    left : (q r : ℕ) → (q ≡ s → ⊥) → page_in (cut_space old s) q r ≡ page_in old q r
    left q r other =
        page_of (cut_space old s) q r ∙ ap (λ (x : SpaceState). get x.pages r) (space_left old s q other) ∙ sym (page_of old q r)

    no_page : (r : ℕ) → is_some (page_in (cut_space old s) s r) ≡ true → ⊥
    no_page r there = let at = has_page (cut_space old s) s r there in gone (there_space (cut_space old s) s r at.x at.there)
      where
        gone : holds_space (cut_space old s) s ≡ true → ⊥
        gone holds = let none = sym holds ∙ ap is_some (removed_same old.spaces s s refl) in cc

pub emptied_translated : (old new : State) (s : ℕ) (t : Translations Cached) → new ≡ emptied_space old s → AreTranslated old t → AreTranslated new (flushed s t)
unfolding emptied_space
emptied_translated old new s t is all = same_translated (put_space old s (of_pages (space_in old s) empty)) new (flushed s t) is (record {
  entries = true_flushed old (put_space old s (of_pages (space_in old s) empty)) s t (page_beside (of_pages (space_in old s) empty)) all.entries;
  apart =
      apart_by old (put_space old s (of_pages (space_in old s) empty)) s all.apart
      (λ q other. ap (λ (x : SpaceState). x.awaiting) (space_beside old s (of_pages (space_in old s) empty) q other))
      (page_beside (of_pages (space_in old s) empty))
      (λ r there. absurd (no_page r there));
  small = small_by old (put_space old s (of_pages (space_in old s) empty)) all.small (λ q r x there off. by_key q s
      (λ same. absurd (no_page r (ap is_some (sym (ap (λ n. page_in (put_space old s (of_pages (space_in old s) empty)) n r) same) ∙ there))))
      (λ other.
      inr (
        sym (page_beside (of_pages (space_in old s) empty) q r other) ∙ there,
        ap (λ (y : SpaceState). y.speculating) (sym (space_beside old s (of_pages (space_in old s) empty) q other)) ∙ off,
      )));
})
  where
    page_beside : (y : SpaceState) (q r : ℕ) → (q ≡ s → ⊥) → page_in (put_space old s y) q r ≡ page_in old q r
    page_beside y q r other = page_of (put_space old s y) q r ∙ ap (λ (x : SpaceState). get x.pages r) (space_beside old s y q other) ∙ sym (page_of old q r)

    no_page : (r : ℕ) → is_some (page_in (put_space old s (of_pages (space_in old s) empty)) s r) ≡ true → ⊥
    no_page r there =
        let none = sym there ∙ ap is_some (in_space old s (of_pages (space_in old s) empty) s r refl ∙ get-empty {X = PageState} nat_cmp r) in cc

-- pages of a space, of which none awaits, were changed in some way, and its entries removed
pub settled_translated : (old new : State) (s : ℕ) (t : Translations Cached) → (space_in old s).awaiting ≡ empty
    → ((q : ℕ) → (space_in new q).awaiting ≡ (space_in old q).awaiting) → ((q r : ℕ) → (q ≡ s → ⊥) → page_in new q r ≡ page_in old q r) → AreOverlaysSmall new
    → AreTranslated old t → AreTranslated new (flushed s t)
settled_translated old new s t settled awaiting beside small all = record {
  small = small;
  entries = true_flushed old new s t beside all.entries;
  apart = apart_by old new s all.apart (λ q other. awaiting q) beside (λ r there. none_awaits new s (awaiting s ∙ settled) r);
}

pub unmapped_translated : (old new : State) (s p n : ℕ) (t : Translations Cached) → new ≡ cut_pages old s p n → (space_in old s).awaiting ≡ empty
    → AreMapped old s p n → AreTranslated old t → AreTranslated new (flushed s t)
unfolding cut_pages
unmapped_translated old new s p zero t is settled there all = settled_translated old new s t settled
    (λ q. ap (λ v. (space_in v q).awaiting) (is ∙ none old)) (λ q r other. ap (λ v. page_in v q r) (is ∙ none old)) (subst AreOverlaysSmall (sym (is ∙ none old)) all.small) all
  where
    none : (v : State) → cut_pages v s p zero ≡ v
    none v = refl
unmapped_translated old new s p (suc n) t is settled there all =
    let at = has_page old s (p + 0) (there 0 (omega arith)) in
    let cut = are_cut (suc n) p old s (there_space old s (p + 0) at.x at.there) in
    settled_translated old new s t settled
    (λ q. ap (λ v. (space_in v q).awaiting) is ∙ cut.keeps.awaiting q)
    (λ q r other. ap (λ v. page_in v q r) is ∙ cut.beside q r (λ same within. other same))
    (subst AreOverlaysSmall (sym is) (small_but old (cut_pages old s p (suc n)) s all.small cut.keeps.marks (λ q r other. cut.beside q r (λ same within. other same))
    (λ r x there. by_test (is_within p (suc n) r)
    (λ within. let no = sym (cut.here r within) ∙ there in cc)
    (λ far. inr (sym (cut.beside s r (λ same within. let no = sym far ∙ within in cc)) ∙ there))))) all

pub zeros_translated : (old new : State) (s p n : ℕ) (entry : PageEntry) (t : Translations Cached) → new ≡ with_zeros old s p n entry → holds_space old s ≡ true
    → (space_in old s).awaiting ≡ empty → AreTranslated old t → AreTranslated new (flushed s t)
unfolding with_zeros
zeros_translated old new s p n entry t is holds settled all =
    let put = are_put n p old s (whole_page entry zero_page) holds in
    settled_translated old new s t settled
    (λ q. ap (λ v. (space_in v q).awaiting) is ∙ put.keeps.awaiting q)
    (λ q r other. ap (λ v. page_in v q r) is ∙ put.beside q r (λ same within. other same))
    (subst AreOverlaysSmall (sym is) (small_but old (put_pages old s p n (whole_page entry zero_page)) s all.small put.keeps.marks (λ q r other. put.beside q r (λ same within. other same))
    (λ r x there. by_test (is_within p n r)
    (λ within. inl (subst (λ y. length y.own ≤ 31) (some_is (whole_page entry zero_page) x (sym (put.here r within) ∙ there)) (omega arith)))
    (λ far. inr (sym (put.beside s r (λ same within. let no = sym far ∙ within in cc)) ∙ there))))) all

-- a page put
pub put_translated : (old new : State) (s p : ℕ) (x : PageState) (t : Translations Cached) → new ≡ put_page old s p x → holds_space old s ≡ true
    → (space_in old s).awaiting ≡ empty → length x.own ≤ 31 → AreTranslated old t → AreTranslated new (flushed s t)
put_translated old new s p x t is holds settled few all = settled_translated old new s t settled
    (λ q. ap (λ v. (space_in v q).awaiting) is ∙ (keeps_page_put old s p x holds).awaiting q)
    (λ q r other. ap (λ v. page_in v q r) is ∙ page_put_beside old s p x q r (λ same within. other same))
    (subst AreOverlaysSmall (sym is) (small_put old s p x holds few all.small)) all

pub copied_translated : (old new : State) (s p : ℕ) (at : PageState → ℕ → PageState) (t : Translations Cached) → ((x : PageState) (frame : ℕ) → (at x frame).own ≡ [])
    → IfSome (page_in old s p) (λ x. IsPlaced old new s p (at x)) → IsSome (page_in old s p) → (space_in old s).awaiting ≡ empty → AreTranslated old t
    → AreTranslated new (flushed s t)
copied_translated old new s p at t bare placed there settled all = by_page (page_in old s p) refl placed
  where
    by_page : (o : Option PageState) → page_in old s p ≡ o → IfSome o (λ x. IsPlaced old new s p (at x)) → AreTranslated new (flushed s t)
    by_page None is h = let no_page = sym there ∙ ap is_some is in cc
    by_page (Some x) is h = put_translated old new s p (at x h.frame) t h.placed (there_space old s p x is) settled (omega (arith, ap length (bare x h.frame))) all

-- a page placed where none was
pub placed_translated : (old new : State) (s p : ℕ) (at : ℕ → PageState) (t : Translations Cached) → ((frame : ℕ) → (at frame).own ≡ []) → IsPlaced old new s p at → page_in old s p ≡ None
    → holds_space old s ≡ true → (space_in old s).awaiting ≡ empty → AreTranslated old t → AreTranslated new t
placed_translated old new s p at t bare placed absent holds settled all =
    same_translated (put_page old s p (at placed.frame)) new t placed.placed (record {
      entries = true_kept old (put_page old s p (at placed.frame)) t
          (λ q r x there. page_put_beside old s p (at placed.frame) q r (λ one two. absurd (elsewhere q r x there one two)) ∙ there) all.entries;
      apart = apart_by old (put_page old s p (at placed.frame)) s all.apart (λ q other. keeps.awaiting q)
          (λ q r other. page_put_beside old s p (at placed.frame) q r (λ same within. other same))
          (λ r there. none_awaits (put_page old s p (at placed.frame)) s (keeps.awaiting s ∙ settled) r);
      small = small_put old s p (at placed.frame) holds (omega (arith, ap length (bare placed.frame))) all.small;
    })
  where
    keeps : KeepsSpaces old (put_page old s p (at placed.frame))
    keeps = keeps_page_put old s p (at placed.frame) holds

    elsewhere : (q r : ℕ) (x : PageState) → page_in old q r ≡ Some x → q ≡ s → r ≡ p → ⊥
    elsewhere q r x there one two = let none = ap is_some (sym there ∙ ap (λ n. page_in old n r) one ∙ ap (page_in old s) two ∙ absent) in cc

-- a page changed
pub altered_translated : (f : PageState → PageState) → ((x : PageState) → (f x).own ≡ []) → (old new : State) (s p : ℕ) (t : Translations Cached) → new ≡ altered_page f old s p → IsSome (page_in old s p)
    → AreTranslated old t → AreTranslated new (flushed s t)
altered_translated f bare old new s p t is there all =
    same_translated (put_page old s p (f at.x)) new (flushed s t) (is ∙ changed_there f old s p at.x at.there) (record {
      entries = true_flushed old (put_page old s p (f at.x)) s t (λ q r other. page_put_beside old s p (f at.x) q r (λ same within. other same)) all.entries;
      apart = apart_same old (put_page old s p (f at.x)) all.apart (keeps_page_put old s p (f at.x) (there_space old s p at.x at.there)).awaiting was_there;
      small = small_put old s p (f at.x) (there_space old s p at.x at.there) (omega (arith, ap length (bare at.x))) all.small;
    })
  where
    at : HasPage old s p
    at = has_page old s p there

    was_there : (q r : ℕ) → is_some (page_in (put_page old s p (f at.x)) q r) ≡ true → is_some (page_in old q r) ≡ true
    was_there q r now = by_key q s
        (λ one. by_key r p
        (λ two. ap (λ n. is_some (page_in old n r)) one ∙ ap (λ n. is_some (page_in old s n)) two ∙ there)
        (λ far. sym (ap is_some (page_put_beside old s p (f at.x) q r (λ same within. far within))) ∙ now))
        (λ other. sym (ap is_some (page_put_beside old s p (f at.x) q r (λ same within. other same))) ∙ now)

-- a page that awaits became one of the space's
shared_translated : (old : State) (s p : ℕ) (x : PageState) (t : Translations Cached) → is_some (get (space_in old s).awaiting p) ≡ true → length x.own ≤ 31 → AreTranslated old t
    → AreTranslated (put_shared old s p x) t
unfolding put_shared
shared_translated old s p x t waits few all = record {
  entries = true_kept old (put_shared old s p x) t
      (λ q r y there. page_shared_beside old s p x q r (λ one two. absurd (elsewhere q r y there one two)) ∙ there) all.entries;
  apart = apart_by old (put_shared old s p x) s all.apart awaiting_beside (λ q r other. page_shared_beside old s p x q r (λ same within. other same)) here;
  small = small_but old (put_shared old s p x) s all.small marks (λ q r other. page_shared_beside old s p x q r (λ same within. other same))
      (λ r y there. by_key r p
      (λ same. inl (subst (λ z. length z.own ≤ 31) (some_is x y (sym (page_shared_here old s p x s r refl same) ∙ there)) few))
      (λ other. inr (sym (page_shared_beside old s p x s r (λ one two. other two)) ∙ there)));
}
  where
    elsewhere : (q r : ℕ) (y : PageState) → page_in old q r ≡ Some y → q ≡ s → r ≡ p → ⊥
    elsewhere q r y there one two =
        let at = ap is_some (sym (ap (λ n. page_in old n r) one ∙ ap (page_in old s) two) ∙ there) in
        let none = sym waits ∙ ap is_some (all.apart s p at) in cc

    marks : (q : ℕ) → (space_in (put_shared old s p x) q).speculating ≡ (space_in old q).speculating
    marks q = by_key q s
        (λ same. ap (λ (y : SpaceState). y.speculating) (space_put old s _ q same) ∙ ap (λ n. (space_in old n).speculating) (sym same))
        (λ other. ap (λ (y : SpaceState). y.speculating) (space_beside old s _ q other))

    awaiting_beside : (q : ℕ) → (q ≡ s → ⊥) → (space_in (put_shared old s p x) q).awaiting ≡ (space_in old q).awaiting
    awaiting_beside q other = ap (λ (y : SpaceState). y.awaiting) (space_beside old s _ q other)

    awaiting_here : (space_in (put_shared old s p x) s).awaiting ≡ remove (space_in old s).awaiting p
    awaiting_here = ap (λ (y : SpaceState). y.awaiting) (space_put old s _ s refl)

    here : (r : ℕ) → is_some (page_in (put_shared old s p x) s r) ≡ true → get (space_in (put_shared old s p x) s).awaiting r ≡ None
    here r there = by_key r p
        (λ same. ap (λ m. get m r) awaiting_here ∙ removed_same (space_in old s).awaiting p r same)
        (λ other. ap (λ m. get m r) awaiting_here ∙ removed_other (space_in old s).awaiting p r other
        ∙ all.apart s r (sym (ap is_some (page_shared_beside old s p x s r (λ same within. other within))) ∙ there))

pub page_shared_translated : (old new : State) (from to p : ℕ) (t : Translations Cached) → new ≡ with_shared old from to p
    → ((x : PageState) → page_in old from p ≡ Some x → length x.own ≤ 31) → AreTranslated old t → AreTranslated new t
unfolding with_shared
page_shared_translated old new from to p t is few all =
    same_translated (with_shared old from to p) new t is (by_entry (get (space_in old to).awaiting p) refl (page_in old from p) refl)
  where
    by_entry : (o : Option PageEntry) → get (space_in old to).awaiting p ≡ o → (c : Option PageState) → page_in old from p ≡ c
        → AreTranslated (option_map_or (λ (e : PageEntry). option_map_or (λ x. put_shared old to p (shared_page e x)) c old) o old) t
    by_entry None waits c there = all
    by_entry (Some e) waits None there = all
    by_entry (Some e) waits (Some x) there = shared_translated old to p (shared_page e x) t (ap is_some waits) (few x there) all

-- pages without own lines, one after the other
pub pages_shared_translated : (from to until : ℕ) (old new : State) (t : Translations Cached) → (from ≡ to → ⊥) → AreShared from to until old new
    → AwaitBare old from to until → AreTranslated old t → AreTranslated new t
pages_shared_translated from to until _ _ t differs (Still state) bare all = all
pages_shared_translated from to until _ _ t differs (Then old new page below least rest) bare all =
    let at = bare page below least.there in
    pages_shared_translated from to until (with_shared old from to page) new t differs rest (still_bare old from to page differs least.there at.0 until bare)
    (page_shared_translated old (with_shared old from to page) from to page t refl (λ x there.
    none_own (length x.own) (sym (own_in old from page ∙ ap (λ o. option_map_or (λ (y : PageState). nat_lt 0 (length y.own)) o false) there) ∙ at.1)) all)
  where
    none_own : (n : ℕ) → nat_lt 0 n ≡ false → n ≤ 31
    none_own n e = grind (arith, nat_tests)

-- pages that are to await, of a space without pages
pub awaited_translated : (old new : State) (s : ℕ) (table : Pages) (t : Translations Cached) → new ≡ put_awaiting old s table → (space_in old s).pages ≡ empty
    → AreTranslated old t → AreTranslated new t
unfolding put_awaiting
awaited_translated old new s table t is none all = same_translated (put_awaiting old s table) new t is (record {
  entries = true_kept old (put_awaiting old s table) t (λ q r x there. page_awaited old s table q r ∙ there) all.entries;
  apart = apart_by old (put_awaiting old s table) s all.apart beside (λ q r other. page_awaited old s table q r) (λ r there. absurd (no_page r there));
  small = small_by old (put_awaiting old s table) all.small (λ q r x there off. inr (sym (page_awaited old s table q r) ∙ there, sym (marks q) ∙ off));
})
  where
    marks : (q : ℕ) → (space_in (put_awaiting old s table) q).speculating ≡ (space_in old q).speculating
    marks q = by_key q s
        (λ same. ap (λ (y : SpaceState). y.speculating) (space_put old s _ q same) ∙ ap (λ n. (space_in old n).speculating) (sym same))
        (λ other. ap (λ (y : SpaceState). y.speculating) (space_beside old s _ q other))

    beside : (q : ℕ) → (q ≡ s → ⊥) → (space_in (put_awaiting old s table) q).awaiting ≡ (space_in old q).awaiting
    beside q other = ap (λ (x : SpaceState). x.awaiting) (space_beside old s _ q other)

    no_page : (r : ℕ) → is_some (page_in (put_awaiting old s table) s r) ≡ true → ⊥
    no_page r there =
        let empty_too = sym there ∙ ap is_some (page_awaited old s table s r ∙ page_of old s r ∙ ap (λ m. get m r) none ∙ get-empty {X = PageState} nat_cmp r) in cc

-- a mark
pub marked_translated : (old new : State) (s : ℕ) (on : Bool) (t : Translations Cached) → new ≡ put_mark old s on → (on ≡ false → NoneLarge (books old) s) → AreTranslated old t → AreTranslated new (flushed s t)
unfolding put_mark
marked_translated old new s on t is none all = same_translated (put_mark old s on) new (flushed s t) is (record {
  entries = true_flushed old (put_mark old s on) s t (λ q r other. page_marked old s on q r) all.entries;
  apart = apart_same old (put_mark old s on) all.apart awaiting (λ q r there. sym (ap is_some (page_marked old s on q r)) ∙ there);
  small = small_by old (put_mark old s on) all.small (λ q r x there off. by_key q s
      (λ same. inl (small_own old s r x (none (sym (ap (λ (y : SpaceState). y.speculating) (space_put old s _ q same)) ∙ off))
      (sym (ap (λ n. page_in old n r) same) ∙ sym (page_marked old s on q r) ∙ there)))
      (λ other. inr (sym (page_marked old s on q r) ∙ there, ap (λ (y : SpaceState). y.speculating) (sym (space_beside old s _ q other)) ∙ off)));
})
  where
    awaiting : (q : ℕ) → (space_in (put_mark old s on) q).awaiting ≡ (space_in old q).awaiting
    awaiting q = by_key q s
        (λ same. ap (λ (x : SpaceState). x.awaiting) (space_put old s _ q same) ∙ ap (λ n. (space_in old n).awaiting) (sym same))
        (λ other. ap (λ (x : SpaceState). x.awaiting) (space_beside old s _ q other))

-- Nothing but lines changed, and no ledger.

pub cached_same : (old new : State) (s : ℕ) → KeepsAllElse old new s → entries_in new s ≡ entries_in old s → books new ≡ books old → (q r : ℕ) → cached_in new q r ≡ cached_in old q r
cached_same old new s beside kept ledger q r = by_key q s
    (λ same. by_pages (page_in new q r) refl (page_in old q r) refl (entries_of same))
    (λ other.
    ap (option_map cached_page) (page_of new q r ∙ ap (λ (x : SpaceState). get x.pages r) (beside.others q other) ∙ sym (page_of old q r)))
  where
    entries_of : q ≡ s → option_map (λ (x : PageState). x.entry) (page_in new q r) ≡ option_map (λ (x : PageState). x.entry) (page_in old q r)
    entries_of same =
        sym (entries_at new q r) ∙ ap (λ n. get (entries_in new n) r) same ∙ ap (λ m. get m r) kept ∙ ap (λ n. get (entries_in old n) r) (sym same) ∙ entries_at old q r

    by_pages : (o : Option PageState) → page_in new q r ≡ o → (c : Option PageState) → page_in old q r ≡ c
        → option_map (λ (x : PageState). x.entry) (page_in new q r) ≡ option_map (λ (x : PageState). x.entry) (page_in old q r) → cached_in new q r ≡ cached_in old q r
    by_pages None is None was entries = ap (option_map cached_page) (is ∙ sym was)
    by_pages None is (Some y) was entries = let one = ap is_some (sym (ap (option_map (λ (x : PageState). x.entry)) is) ∙ entries ∙ ap (option_map (λ (x : PageState). x.entry)) was) in cc
    by_pages (Some x) is None was entries = let one = ap is_some (sym (ap (option_map (λ (x : PageState). x.entry)) is) ∙ entries ∙ ap (option_map (λ (x : PageState). x.entry)) was) in cc
    by_pages (Some x) is (Some y) was entries =
        let entry = some_is x.entry y.entry (sym (ap (option_map (λ (z : PageState). z.entry)) is) ∙ entries ∙ ap (option_map (λ (z : PageState). z.entry)) was) in
        let held = some_is (held_page new.zero_frame x) (held_page old.zero_frame y)
        (sym (held_there new q r x is) ∙ ap (λ l. holding_at l q r) ledger ∙ held_there old q r y was) in
        let own = ap (λ (h : Holding). h.own) held in
        ap (option_map cached_page) is
        ∙ (λ i. Some (record { perms = (entry i).perms; frame = (entry i).frame; bits = own i }))
        ∙ sym (ap (option_map cached_page) was)

-- bytes were put in lines that can be written
pub filled_true : (old new : State) (s address : ℕ) (bytes : List ℕ) (t : Translations Cached) → IsFilled old new s address bytes → AreTrue old t → AreTrue new t
filled_true old new s address bytes t filled entries = true_same old new t (cached_same old new s filled.beside filled.entries filled.ledger) entries

-- A line of the region was written: no table changed.

pub lent_translated : (m : MemoryView) (at : ℕ) (line : List ℕ) (t : Translations Cached) → AreTranslated (seen.state_of m) t
    → AreTranslated (seen.state_of (with_line_at_place m at line)) t
unfolding page_state
lent_translated m at line t all = record {
  entries = true_same (seen.state_of m) (seen.state_of after) t (λ q r.
      ap (option_map cached_page) (state_page after q r) ∙ by_page (page_in m.table q r) ∙ sym (ap (option_map cached_page) (state_page m q r))) all.entries;
  apart = apart_same (seen.state_of m) (seen.state_of after) all.apart (λ q. state_awaiting after q ∙ sym (state_awaiting m q))
      (λ q r there. state_page_some m q r ∙ sym (state_page_some after q r) ∙ there);
  small = λ q r x there off. map_from (page_state after.store) (page_in m.table q r) x (sym (state_page after q r) ∙ there)
      (λ y is same. subst (λ (z : PageState). length z.own ≤ 31) same
      (all.small q r (page_state m.store y) (state_page m q r ∙ ap (option_map (page_state m.store)) is) (state_mark m q ∙ sym (state_mark after q) ∙ off)));
}
  where
    after : MemoryView
    after = with_line_at_place m at line

    by_page : (o : Option PageView) → option_map cached_page (option_map (page_state after.store) o) ≡ option_map cached_page (option_map (page_state m.store) o)
    by_page None = refl
    by_page (Some x) = refl

-- A store.

stored_apart : (old new : State) (s address : ℕ) (bytes : List ℕ) → IsStored old new s address bytes → AwaitApart old → AwaitApart new
stored_apart old new s address bytes stored apart = apart_same old new apart
    (λ q. by_key q s
    (λ same. ap (λ n. (space_in new n).awaiting) same ∙ stored.awaiting ∙ ap (λ n. (space_in old n).awaiting) (sym same))
    (λ other. ap (λ (x : SpaceState). x.awaiting) (stored.others q other)))
    (λ q r there. by_key q s
    (λ same.
    ap (λ n. is_some (page_in old n r)) same ∙ sym (same_pages old new s r stored.permissions)
    ∙ sym (ap (λ n. is_some (page_in new n r)) same) ∙ there)
    (λ other.
    ap is_some (page_of old q r ∙ ap (λ (x : SpaceState). get x.pages r) (sym (stored.others q other)) ∙ sym (page_of new q r)) ∙ there))

refused_translated : (old new : MemoryView) (t : Translations Cached) → new ≡ old → AreTrue (seen.state_of new) t → AwaitApart (seen.state_of old)
    → AreOverlaysSmall (seen.state_of old) → AreTranslated (seen.state_of new) t
refused_translated old new t same entries apart small = record {
  entries = entries;
  apart = subst (λ (m : MemoryView). AwaitApart (seen.state_of m)) (sym same) apart;
  small = subst (λ (m : MemoryView). AreOverlaysSmall (seen.state_of m)) (sym same) small;
}

pub put_stored_translated : (old new : State) (s address : ℕ) (bytes : List ℕ) (t : Translations Cached) → IsStored old new s address bytes → AreTrue new t → AwaitApart old
    → AreOverlaysSmall old → AreTranslated new t
put_stored_translated old new s address bytes t stored entries apart small = record {
  entries = entries;
  apart = stored_apart old new s address bytes stored apart;
  small = small_stored old new s address bytes stored small;
}

pub stored_translated : (old new : MemoryView) (s address : ℕ) (bytes : List ℕ) (r : Result (Unit {0}) MemoryError) (t : Translations Cached)
    → Stores old new s address bytes r → AreTrue (seen.state_of new) t → AwaitApart (seen.state_of old) → AreOverlaysSmall (seen.state_of old) → AreTranslated (seen.state_of new) t
stored_translated old new s address bytes (Ok done) t stores entries apart small =
    put_stored_translated (seen.state_of old) (seen.state_of new) s address bytes t stores.1 entries apart small
stored_translated old new s address bytes (Err (Unmapped at)) t stores entries apart small = refused_translated old new t stores.1 entries apart small
stored_translated old new s address bytes (Err (Forbidden at)) t stores entries apart small = refused_translated old new t stores.1 entries apart small
stored_translated old new s address bytes (Err (Full needed limit)) t stores entries apart small = refused_translated old new t stores.1.kept entries apart small

-- the same where it was done, and where nothing was
pub tried_translated : (old new : MemoryView) (s address : ℕ) (bytes : List ℕ) (done : Bool) (t : Translations Cached)
    → (done ≡ true → Stores old new s address bytes (Ok tt)) → (done ≡ false → new ≡ old)
    → AreTrue (seen.state_of new) t → AwaitApart (seen.state_of old) → AreOverlaysSmall (seen.state_of old) → AreTranslated (seen.state_of new) t
tried_translated old new s address bytes true t stores kept entries apart small =
    stored_translated old new s address bytes (Ok tt) t (stores refl) entries apart small
tried_translated old new s address bytes false t stores kept entries apart small = refused_translated old new t (kept refl) entries apart small

-- of a space that isn't there no page has an entry
pub nothing_seen : (state : State) (s : ℕ) (t : Translations Cached) → holds_space state s ≡ false → AreTranslated state t → (page : ℕ) → found s page t ≡ None
nothing_seen state s t absent all page = by_found (found s page t) refl
  where
    by_found : (o : Option Cached) → found s page t ≡ o → found s page t ≡ None
    by_found None is = is
    by_found (Some held) is =
        let gone : page_in state s page ≡ None = page_absent state s page (none_by (get state.spaces s) absent) in
        let both : None ≡ Some held = sym (ap (option_map cached_page) gone) ∙ all.entries s page held is in
        cc
