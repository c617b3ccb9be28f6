use Rattle.std.specs.Prelude.{◌≡◌, ℕ, ◌+◌, ◌<◌, ◌≤◌, Bool, true, false, cond, ◌&&◌, nat_le, nat_lt, IsSome, List, [], ◌∷◌, length, drop, get_or, Option, Some, None, is_some, refl}
use Rattle.std.proofs.Common.{◌⊎◌, inl, inr, sym, ap, subst, ◌∙◌, arith}
use Rattle.std.proofs.lemmas.Bool.Decides.{nat_tests}
use Rattle.std.proofs.lemmas.Bool.{cases_lt, cases_order}
use Rattle.std.proofs.lemmas.List.{drop_all}
use Rattle.sizes.specs.declared.TheConstants.{PAGE_END}
use Rattle.std.specs.Option.{option_map}
use Rattle.std.specs.FinMap.{get, insert, remove}
use Rattle.number_maps.specs.Keys.{by_key, differs, get_other, get_same, removed_other, removed_same, ties}
use Rattle.ledger.specs.AloneLaws.{are, arent}
use Rattle.ovl_io.specs.declared.perms.Perms.{Perms}
use Rattle.page_table.specs.Table.{AreThere, Pages, is_within}
use Rattle.page_table.specs.declared.entry.PageEntry.{PageEntry}
use Rattle.delta_image.specs.declared.delta.DeltaPage.{DeltaPage}
use Rattle.delta_spaces.specs.Built.{awaits_at, awaits_with, perms_at}
use Rattle.delta_spaces.specs.Fitted.{IsCutOut, IsFitted, IsNextBelow}
use Rattle.delta_spaces.specs.Finding.{found_from}
use Rattle.delta_spaces.proofs.Parts.{Rising, here, rows_rise}

-- A table of the base's pages is fitted to a delta's, one page after the other.

by_test : {P : Type 0} (b : Bool) → (b ≡ true → P) → (b ≡ false → P) → P
by_test true yes_ no_ = yes_ refl
by_test false yes_ no_ = no_ refl

-- Pages are cut out.

-- those from one on up to where it is
pub record IsCutting (old now : Pages) (from until at : ℕ) : Type 0 where
  pub ahead : from ≤ at
  pub low : at ≤ from ⊎ at ≤ until
  pub cut : IsCutOut old now from at

none_between : (a q : ℕ) → (nat_le a q && nat_lt q a) ≡ false
none_between a q = grind (arith, nat_tests)

pub cutting_none : (old : Pages) (from until : ℕ) → IsCutting old old from until from
cutting_none old from until = record {
  ahead = omega arith;
  low = inl (omega arith);
  cut = λ q. sym (ap (λ b. cond b None (get old q)) (none_between from q));
}

pub one_there : (pages : Pages) (page : ℕ) → IsSome (get pages page) → AreThere pages page 1
one_there pages page there q within = ap (λ n. is_some (get pages n)) (same within) ∙ there
  where
    same : is_within page 1 q ≡ true → q ≡ page
    same e = grind (arith, nat_tests)

module _ (old now : Pages) (from until at page : ℕ) (so : IsCutting old now from until at) (next : IsNextBelow now at until (Some page)) where
  pub cutting_more : (new : Pages) → new ≡ remove now page → IsCutting old new from until (page + 1)
  cutting_more new is = record {
    ahead = omega (arith, so.ahead, next.0);
    low = inr (omega (arith, next.1));
    cut = λ q. ap (λ (m : Pages). get m q) is ∙ by_key q page
        (λ same. removed_same now page q same ∙ sym (ap (λ b. cond b None (get old q)) (inside q same)))
        (λ other. removed_other now page q other ∙ beside q other (cases_order q page));
  }
    where
      inside : (q : ℕ) → q ≡ page → (nat_le from q && nat_lt q (page + 1)) ≡ true
      inside q same = let ahead = so.ahead in let behind = next.0 in grind (arith, nat_tests)

      lower : (q : ℕ) → q < at → (nat_le from q && nat_lt q at) ≡ (nat_le from q && nat_lt q (page + 1))
      lower q lt = let behind = next.0 in by_test (nat_lt q at) (λ e. grind (arith, nat_tests)) (λ e. absurd (grind (arith, nat_tests)))

      upper : (q : ℕ) → page < q → (nat_le from q && nat_lt q at) ≡ (nat_le from q && nat_lt q (page + 1))
      upper q lt = let behind = next.0 in grind (arith, nat_tests)

      between : (q : ℕ) → at ≤ q → q < page → (nat_le from q && nat_lt q (page + 1)) ≡ true
      between q ge lt = let ahead = so.ahead in grind (arith, nat_tests)

      beside : (q : ℕ) → (q ≡ page → ⊥) → (q ≡ page) ⊎ ((q < page) ⊎ (page < q)) → get now q ≡ cond (nat_le from q && nat_lt q (page + 1)) None (get old q)
      beside q other (inl same) = absurd (other same)
      beside q other (inr (inl less)) = by_side (cases_lt q at)
        where
          by_side : (q < at) ⊎ (at ≤ q) → get now q ≡ cond (nat_le from q && nat_lt q (page + 1)) None (get old q)
          by_side (inl lt) = so.cut q ∙ ap (λ b. cond b None (get old q)) (lower q lt)
          by_side (inr ge) = next.3 q ge less ∙ sym (ap (λ b. cond b None (get old q)) (between q ge less))
      beside q other (inr (inr more)) = so.cut q ∙ ap (λ b. cond b None (get old q)) (upper q more)

pub cutting_all : (old now : Pages) (from until at : ℕ) → IsCutting old now from until at → IsNextBelow now at until None → IsCutOut old now from until
cutting_all old now from until at so none q = by_side (cases_lt q at) (cases_lt q until)
  where
    inside : at ≤ q → q < until → (nat_le from q && nat_lt q until) ≡ true
    inside ge lt = let ahead = so.ahead in grind (arith, nat_tests)

    upper : at ≤ q → until ≤ q → (nat_le from q && nat_lt q at) ≡ (nat_le from q && nat_lt q until)
    upper ge le = grind (arith, nat_tests)

    lower : q < at → at ≤ from ⊎ at ≤ until → (nat_le from q && nat_lt q at) ≡ (nat_le from q && nat_lt q until)
    lower lt (inl le) = grind (arith, nat_tests)
    lower lt (inr le) = grind (arith, nat_tests)

    by_side : (q < at) ⊎ (at ≤ q) → (q < until) ⊎ (until ≤ q) → get now q ≡ cond (nat_le from q && nat_lt q until) None (get old q)
    by_side (inl lt) either = so.cut q ∙ ap (λ b. cond b None (get old q)) (lower lt so.low)
    by_side (inr ge) (inl lt) = none q ge lt ∙ sym (ap (λ b. cond b None (get old q)) (inside ge lt))
    by_side (inr ge) (inr le) = so.cut q ∙ ap (λ b. cond b None (get old q)) (upper ge le)

-- A page has the delta's permissions.

pub fitted_there : (old new : Pages) (page : ℕ) (perms : Perms) (entry : PageEntry) → get old page ≡ Some entry
    → new ≡ insert old page (record { perms = perms; frame = entry.frame }) → IsFitted old new page perms
fitted_there old new page perms entry there is q = ap (λ (m : Pages). get m q) is ∙ by_key q page
    (λ same. get_same old page q (record { perms = perms; frame = entry.frame }) same
    ∙ sym (ap (λ b. cond b (option_map (λ (e : PageEntry). record { perms = perms; frame = e.frame }) (get old q)) (get old q)) (are q page same)
    ∙ ap (option_map (λ (e : PageEntry). record { perms = perms; frame = e.frame })) (ap (get old) same ∙ there)))
    (λ other. get_other old page q (record { perms = perms; frame = entry.frame }) other
    ∙ sym (ap (λ b. cond b (option_map (λ (e : PageEntry). record { perms = perms; frame = e.frame }) (get old q)) (get old q)) (arent q page other)))

pub fitted_absent : (old : Pages) (page : ℕ) (perms : Perms) → get old page ≡ None → IsFitted old old page perms
fitted_absent old page perms absent q = by_key q page
    (λ same. let none : get old q ≡ None = ap (get old) same ∙ absent in
    none ∙ sym (ap (λ b. cond b (option_map (λ (e : PageEntry). record { perms = perms; frame = e.frame }) (get old q)) (get old q)) (are q page same)
    ∙ ap (option_map (λ (e : PageEntry). record { perms = perms; frame = e.frame })) none))
    (λ other. sym (ap (λ b. cond b (option_map (λ (e : PageEntry). record { perms = perms; frame = e.frame }) (get old q)) (get old q)) (arent q page other)))

-- The pages below one are as they are to be, the others as they were.

pub record IsFitting (old now : Pages) (pages rest : List DeltaPage) (at : ℕ) : Type 0 where
  pub done : (q : ℕ) → q < at → get now q ≡ awaits_at old pages q
  pub kept : (q : ℕ) → at ≤ q → get now q ≡ get old q
  pub same : (q : ℕ) → at ≤ q → perms_at pages q ≡ perms_at rest q
  pub rise : Rising at rest

pub fitting_none : (old : Pages) (pages : List DeltaPage) → Rising 0 pages → IsFitting old old pages pages 0
fitting_none old pages rise = record { done = λ q lt. absurd (omega (arith, lt)); kept = λ q le. refl; same = λ q le. refl; rise = rise }

-- a page below the first isn't among them
pub none_before : (from q : ℕ) (pages : List DeltaPage) → Rising from pages → q < from → perms_at pages q ≡ None
none_before from q pages rise lt = by_perms (perms_at pages q) refl
  where
    by_perms : (o : Option Perms) → perms_at pages q ≡ o → perms_at pages q ≡ None
    by_perms None is = is
    by_perms (Some perms) is = absurd (omega (arith, lt, found_from from q _ (rows_rise (λ (page : DeltaPage). page.perms) from pages rise) (ap is_some is)))

module _ (old now cut new : Pages) (pages more : List DeltaPage) (at : ℕ) (page : DeltaPage) (so : IsFitting old now pages (page ∷ more) at)
    (is_cut : IsCutOut now cut at page.page) (is_fitted : IsFitted cut new page.page page.perms) where
  after_cut : (q : ℕ) → (nat_le at q && nat_lt q page.page) ≡ false → get cut q ≡ get now q
  after_cut q e = is_cut q ∙ ap (λ b. cond b None (get now q)) e

  beside_page : (q : ℕ) → (q ≡ page.page → ⊥) → get new q ≡ get cut q
  beside_page q other =
      is_fitted q ∙ ap (λ b. cond b (option_map (λ (e : PageEntry). record { perms = page.perms; frame = e.frame }) (get cut q)) (get cut q)) (arent q page.page other)

  pub fitting_more : IsFitting old new pages more (page.page + 1)
  fitting_more = record {
    done = λ q lt. done q lt (cases_lt q at) (cases_lt q page.page);
    kept = λ q le. beside_page q (λ same. omega (arith, le, same)) ∙ after_cut q (above q le) ∙ so.kept q (omega (arith, le, so.rise.0));
    same = λ q le. so.same q (omega (arith, le, so.rise.0))
        ∙ ap (λ b. cond b (Some page.perms) (perms_at more q)) (differs q page.page (λ same. omega (arith, le, same)));
    rise = so.rise.1;
  }
    where
      above : (q : ℕ) → page.page + 1 ≤ q → (nat_le at q && nat_lt q page.page) ≡ false
      above q le = grind (arith, nat_tests)

      lower : (q : ℕ) → q < at → (nat_le at q && nat_lt q page.page) ≡ false
      lower q lt = grind (arith, nat_tests)

      between : (q : ℕ) → at ≤ q → q < page.page → (nat_le at q && nat_lt q page.page) ≡ true
      between q ge lt = grind (arith, nat_tests)

      at_page : (q : ℕ) → q ≡ page.page → (nat_le at q && nat_lt q page.page) ≡ false
      at_page q same = grind (arith, nat_tests)

      done : (q : ℕ) → q < page.page + 1 → (q < at) ⊎ (at ≤ q) → (q < page.page) ⊎ (page.page ≤ q) → get new q ≡ awaits_at old pages q
      done q lt (inl less) either =
          beside_page q (λ same. omega (arith, less, same, so.rise.0)) ∙ after_cut q (lower q less) ∙ so.done q less
      done q lt (inr ge) (inl less) =
          beside_page q (λ same. omega (arith, less, same)) ∙ is_cut q ∙ ap (λ b. cond b None (get now q)) (between q ge less)
          ∙ sym (ap (awaits_with (get old q)) (so.same q ge ∙ none_before page.page q (page ∷ more) (omega arith, so.rise.1) less))
      done q lt (inr ge) (inr le) =
          let same : q ≡ page.page = omega (arith, lt, le) in
          is_fitted q ∙ ap (λ b. cond b (option_map (λ (e : PageEntry). record { perms = page.perms; frame = e.frame }) (get cut q)) (get cut q)) (are q page.page same)
          ∙ ap (option_map (λ (e : PageEntry). record { perms = page.perms; frame = e.frame })) (after_cut q (at_page q same) ∙ so.kept q ge)
          ∙ sym (ap (awaits_with (get old q)) (so.same q ge ∙ ap (λ b. cond b (Some page.perms) (perms_at more q)) (ties q page.page same)))

-- at last all are
pub fitting_all : (old now cut : Pages) (pages : List DeltaPage) (at end : ℕ) → IsFitting old now pages [] at → ((q : ℕ) → IsSome (get old q) → q < end)
    → IsCutOut now cut at end → (q : ℕ) → get cut q ≡ awaits_at old pages q
fitting_all old now cut pages at end so low is_cut q = by_side (cases_lt q at) (cases_lt q end)
  where
    lower : q < at → (nat_le at q && nat_lt q end) ≡ false
    lower lt = grind (arith, nat_tests)

    between : at ≤ q → q < end → (nat_le at q && nat_lt q end) ≡ true
    between ge lt = grind (arith, nat_tests)

    upper : end ≤ q → (nat_le at q && nat_lt q end) ≡ false
    upper ge = grind (arith, nat_tests)

    none : at ≤ q → awaits_at old pages q ≡ None
    none ge = ap (awaits_with (get old q)) (so.same q ge)

    beyond : end ≤ q → get old q ≡ None
    beyond ge = by_entry (get old q) refl
      where
        by_entry : (o : Option PageEntry) → get old q ≡ o → get old q ≡ None
        by_entry None is = is
        by_entry (Some e) is = absurd (omega (arith, ge, low q (ap is_some is)))

    by_side : (q < at) ⊎ (at ≤ q) → (q < end) ⊎ (end ≤ q) → get cut q ≡ awaits_at old pages q
    by_side (inl lt) either = is_cut q ∙ ap (λ b. cond b None (get now q)) (lower lt) ∙ so.done q lt
    by_side (inr ge) (inl lt) = is_cut q ∙ ap (λ b. cond b None (get now q)) (between ge lt) ∙ sym (none ge)
    by_side (inr ge) (inr le) = is_cut q ∙ ap (λ b. cond b None (get now q)) (upper le) ∙ so.kept q ge ∙ beyond le ∙ sym (none ge)

-- The same by the place in the list.

pub fitting_next : (old now cut new : Pages) (pages : List DeltaPage) (count at : ℕ) (page d : DeltaPage) → count < length pages → page ≡ get_or pages count d
    → IsFitting old now pages (drop count pages) at → IsCutOut now cut at page.page → IsFitted cut new page.page page.perms → IsFitting old new pages (drop (count + 1) pages) (page.page + 1)
fitting_next old now cut new pages count at page d within is so is_cut is_fitted =
    fitting_more old now cut new pages (drop (count + 1) pages) at page (subst (λ rest. IsFitting old now pages rest at) (here pages count d page within is) so) is_cut is_fitted

pub fitting_end : (old now cut : Pages) (pages : List DeltaPage) (count at : ℕ) → length pages ≤ count → IsFitting old now pages (drop count pages) at → ((q : ℕ) → IsSome (get old q) → q < PAGE_END) → IsCutOut now cut at PAGE_END
    → (q : ℕ) → get cut q ≡ awaits_at old pages q
fitting_end old now cut pages count at all so low is_cut =
    fitting_all old now cut pages at PAGE_END (subst (λ rest. IsFitting old now pages rest at) (drop_all count pages all) so) low is_cut
