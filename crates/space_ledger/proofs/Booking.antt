use Rattle.space_ledger.proofs.Common.{subst, ◌≡◌, ℕ, ◌+◌, ◌-◌, ◌==◌, ◌≤◌, ◌<◌, ◌⊎◌, Bool, true, false, cond, not, ◌&&◌, nat_eq, List, length, Some, refl, sym, ap, ◌∙◌, arith, inl, inr, nat_tests, length-set}
use Rattle.space_ledger.proofs.Pages.{sharers_of, held_here, held_other, released_here, released_other}
use Rattle.space_ledger.proofs.Views.{Holding, Ledger, holding_at, is_alone, is_unused, with_page, without_page, class, sharers, units, alone_is, frame_for, lines_at, lines_put, units_at, units_own, units_put, alone_by_count, had_by_count, sharers_at, sharers_put, origin_of, unused_is, frame_units, held_by, released_by, AreBooks, AreSharersCounted}

-- The counts of frames, page by page.

pub eq_true : (a b : ℕ) → nat_eq a b ≡ true → a ≡ b
eq_true a b h = grind (arith, nat_tests)

pub eq_false : (a b : ℕ) → nat_eq a b ≡ false → a ≡ b → ⊥
eq_false a b h same = let no : nat_eq a b ≡ true = grind (arith, nat_tests) in let e = sym h ∙ no in cc

pub by_two : {P : Type 0} (a b : ℕ) → (a ≡ b → P) → ((a ≡ b → ⊥) → P) → P
by_two {P = P} a b same other = at (nat_eq a b) refl
  where
    at : (c : Bool) → nat_eq a b ≡ c → P
    at true e = same (eq_true a b e)
    at false e = other (eq_false a b e)

pub held_zero : (z : ℕ) (counts : List ℕ) (f : ℕ) → f ≡ z → held_by z counts f ≡ counts
unfolding held_by
held_zero z counts f same = grind (arith, nat_tests)

pub released_zero : (z : ℕ) (counts : List ℕ) (f : ℕ) → f ≡ z → released_by z counts f ≡ counts
unfolding released_by
released_zero z counts f same = grind (arith, nat_tests)

-- the count of a frame beside the one that a page fewer names
pub released_beside : (z : ℕ) (counts : List ℕ) (g f : ℕ) → (f ≡ g → ⊥) → sharers_of (released_by z counts g) f ≡ sharers_of counts f
unfolding released_by
released_beside z counts g f differ = let other = released_other counts g f differ in grind (arith, nat_tests, other)

-- as many counts
pub length_held : (z : ℕ) (counts : List ℕ) (f : ℕ) → length (held_by z counts f) ≡ length counts
unfolding held_by
length_held z counts f = grind (arith, nat_tests, length-set {A = ℕ})

pub length_released : (z : ℕ) (counts : List ℕ) (f : ℕ) → length (released_by z counts f) ≡ length counts
unfolding released_by
length_released z counts f = grind (arith, nat_tests, length-set {A = ℕ})

-- the units of a frame
pub no_units : (z f : ℕ) (counts : List ℕ) → f ≡ z → frame_units z counts f ≡ 0
unfolding frame_units
no_units z f counts same = grind (arith, nat_tests)

pub few_units : (z f : ℕ) (counts : List ℕ) → frame_units z counts f ≤ 16
unfolding frame_units
few_units z f counts = grind (arith, nat_tests)

-- a page of a frame is taken away
pub counts_released : (l : Ledger) (z frames s p g : ℕ) (h : Holding) (counts : List ℕ) → AreSharersCounted l z frames counts → length counts ≡ frames → holding_at l s p ≡ Some h
    → h.origin ≡ origin_of z g → g < frames → AreSharersCounted (without_page l s p) z frames (released_by z counts g)
unfolding released_by
counts_released l z frames s p g h counts counted room there origin low f f_low isnt =
    let all = sharers_at l s p h (f + 1) there in
    let was = counted f f_low isnt in
    let here = released_here counts g (omega (arith, low, room)) in
    let other = released_other counts g f in
    grind (arith, nat_tests, all, was, origin, here, other)

-- a page of a frame is put
pub counts_held : (l : Ledger) (z frames s p g : ℕ) (h : Holding) (counts : List ℕ) → AreSharersCounted (without_page l s p) z frames counts → length counts ≡ frames
    → h.origin ≡ origin_of z g → g < frames → AreSharersCounted (with_page l s p h) z frames (held_by z counts g)
unfolding held_by
counts_held l z frames s p g h counts counted room origin low f f_low isnt =
    let all = sharers_put l s p h (f + 1) in
    let was = counted f f_low isnt in
    let here = held_here counts g (omega (arith, low, room)) in
    let other = held_other counts g f in
    grind (arith, nat_tests, all, was, origin, here, other)

-- whether a frame is unused, by its count
pub unused_by_count : (l : Ledger) (z frames f : ℕ) (counts : List ℕ) → AreSharersCounted l z frames counts → f < frames
    → (not (nat_eq f z) && nat_eq (sharers_of counts f) 0) ≡ is_unused l (origin_of z f)
unused_by_count l z frames f counts counted low =
    let unused = unused_is l z f in let had = had_by_count l (f + 1) in let count = counted f low in
    grind (arith, nat_tests, unused, had, count)

-- the units of a frame, by its count
pub units_by_count : (l : Ledger) (z frames g : ℕ) (counts : List ℕ) → AreSharersCounted l z frames counts → g < frames
    → frame_units z counts g ≡ frame_for (is_unused l (origin_of z g))
unfolding frame_units frame_for
units_by_count l z frames g counts counted low = let unused = unused_by_count l z frames g counts counted low in grind (arith, nat_tests, unused)

-- a frame that a page names has a sharer
pub some_sharer : (l : Ledger) (z frames s p g : ℕ) (h : Holding) (counts : List ℕ) → AreSharersCounted l z frames counts → holding_at l s p ≡ Some h → h.origin ≡ origin_of z g → g < frames
    → (g ≡ z) ⊎ (0 < sharers_of counts g)
some_sharer l z frames s p g h counts counted there origin low = by_two g z inl (λ isnt.
    let all = sharers_at l s p h (g + 1) there in let count = counted g low isnt in
    inr (grind (arith, nat_tests, all, count, origin, isnt)))

-- a page is alone by the count of its frame
pub alone_frame : (l : Ledger) (z frames s p g : ℕ) (h : Holding) (counts : List ℕ) → AreSharersCounted l z frames counts → holding_at l s p ≡ Some h → h.origin ≡ origin_of z g → g < frames
    → (not (g == z) && (sharers_of counts g == 1)) ≡ is_alone l s p
alone_frame l z frames s p g h counts counted there origin low =
    let alone = alone_by_count l s p h there in let count = counted g low in
    grind (arith, nat_tests, alone, count, origin)

-- A page of a frame goes, and one comes: what is kept of the ledger then.

pub record HasGone (l : Ledger) (z frames s p g : ℕ) (h : Holding) (less : List ℕ) (freed u n : ℕ) : Type 0 where
  pub books : AreBooks (without_page l s p) z frames less (u - (freed + class (length h.own))) (n - length h.own)
  pub fits : freed + class (length h.own) ≤ u
  pub lines_fit : length h.own ≤ n
  pub freed_is : freed ≡ frame_for (is_unused (without_page l s p) (origin_of z g))

module _ (l : Ledger) (z frames s p g : ℕ) (h : Holding) (origin : h.origin ≡ origin_of z g) (low : g < frames) where
  pub page_gone : {counts less : List ℕ} {freed u n : ℕ} → AreBooks l z frames counts u n → holding_at l s p ≡ Some h → less ≡ released_by z counts g → freed ≡ frame_units z less g
      → HasGone l z frames s p g h less freed u n
  page_gone {counts = counts} {less = less} {freed = freed} books there less_is cost =
      let left = subst (AreSharersCounted (without_page l s p) z frames) (sym less_is) (counts_released l z frames s p g h counts books.counted books.room there origin low) in
      let freed_is : freed ≡ frame_for (is_unused (without_page l s p) (origin_of z g)) = cost ∙ units_by_count (without_page l s p) z frames g less left low in
      let was = books.units_is ∙ units_at l s p h there
      ∙ ap (λ b. units (without_page l s p) + (frame_for b + class (length h.own))) (alone_is l s p h there ∙ ap (is_unused (without_page l s p)) origin) in
      let lines = books.lines_is ∙ lines_at l s p h there in record {
        books = record { room = ap length less_is ∙ length_released z counts g ∙ books.room; counted = left; units_is = omega (arith, was, freed_is); lines_is = omega (arith, lines) };
        fits = omega (arith, was, freed_is);
        lines_fit = omega (arith, lines);
        freed_is = freed_is;
      }

  pub page_come : {counts more : List ℕ} {added u n : ℕ} → AreBooks (without_page l s p) z frames counts u n → more ≡ held_by z counts g → added ≡ frame_units z counts g
      → AreBooks (with_page l s p h) z frames more (u + (added + class (length h.own))) (n + length h.own)
  page_come {counts = counts} books more_is cost =
      let added = cost ∙ units_by_count (without_page l s p) z frames g counts books.counted low in
      let put = units_put l s p h ∙ ap (λ o. units (without_page l s p) + (frame_for (is_unused (without_page l s p) o) + class (length h.own))) origin in
      let was = books.units_is in record {
        room = ap length more_is ∙ length_held z counts g ∙ books.room;
        counted = subst (AreSharersCounted (with_page l s p h) z frames) (sym more_is) (counts_held l z frames s p g h counts books.counted books.room origin low);
        units_is = omega (arith, added, put, was);
        lines_is = ap (λ k. k + length h.own) books.lines_is ∙ sym (lines_put l s p h);
      }

  -- one of the same frame in its place
  pub page_over : (counts : List ℕ) (u n : ℕ) (k : Holding) → AreBooks l z frames counts u n → holding_at l s p ≡ Some k → k.origin ≡ h.origin
      → AreBooks (with_page l s p h) z frames counts (u - class (length k.own) + class (length h.own)) (n - length k.own + length h.own)
  page_over counts u n k books there same = record {
    room = books.room;
    counted = λ f f_low isnt. books.counted f f_low isnt ∙ sharers_at l s p k (f + 1) there
        ∙ ap (λ o. sharers (without_page l s p) (f + 1) + cond (o == f + 1) 1 0) same ∙ sym (sharers_put l s p h (f + 1));
    units_is = let own = units_own l s p k h there (sym same) in let was = books.units_is ∙ units_at l s p k there in let is = books.units_is in omega (arith, own, was, is);
    lines_is = let put = lines_put l s p h in let was = books.lines_is ∙ lines_at l s p k there in omega (arith, put, was);
  }

pub same_books : {l : Ledger} {z frames : ℕ} {counts : List ℕ} {u n u' n' : ℕ} → AreBooks l z frames counts u n → u' ≡ u → n' ≡ n → AreBooks l z frames counts u' n'
same_books books units lines = record { room = books.room; counted = books.counted; units_is = units ∙ books.units_is; lines_is = lines ∙ books.lines_is }
