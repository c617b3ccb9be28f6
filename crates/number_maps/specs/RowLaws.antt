use Rattle.std.specs.Prelude.{◌≡◌, ℕ, zero, suc, ◌+◌, ◌<◌, ◌≤◌, ◌⊎◌, Bool, true, false, cond, List, [], ◌∷◌, length, get_or, Option, Some, None, is_some, Result, Ok, Err, IfOk, IfErr, refl}
use Rattle.std.proofs.Common.{inl, inr, slice_set, subst, sym, ap, ◌∙◌, arith}
use Rattle.std.specs.List as list
use Rattle.std.specs.List.Sorted.{IsSearchInRange, IsBinarySearchResult, IsNonDecreasingBy}
use Rattle.std.specs.Ordering.{nat_cmp, is_eq, ordering_index}
use Rattle.std.specs.Cmp.{nat_cmp_total}
use Rattle.std.specs.FinMap.{FinMap, find, get, insert, remove, len, get-from_entries, get-insert, get-remove, len-empty, len-insert}
use Rattle.std.proofs.lemmas.Bool.{cases_lt}
use Rattle.std.proofs.lemmas.Bool.Decides.{nat_tests}
use Rattle.std.proofs.lemmas.Cmp.{ranked}
use Rattle.std.proofs.lemmas.List.{get_or-map}
use Rattle.std.proofs.lemmas.List.Sorted.{IsNonDecreasingBy-from_default}
use Rattle.number_maps.specs.Keys.{alike, differs, tied, ties}
use Rattle.number_maps.specs.Rows.{map_of, key_at, RowsRise, IsAt, IsGap, IsNextOne}

-- Laws of rows by number: what a change of them does to their map, what stands next, and what a search finds.

-- whether two keys are equal, as a look-up asks it
abbrev tie : ℕ → ℕ → Bool
tie q k = is_eq (nat_cmp q k)

module _ {X : Type 0} where
  -- Rows that rise.

  rise_lower : (low from : ℕ) (rows : List (ℕ × X)) → low ≤ from → RowsRise from rows → RowsRise low rows
  rise_lower low from [] le h = tt
  rise_lower low from (row ∷ rows) le h = (omega (arith, le, h.0), h.1)

  least : (from : ℕ) (rows : List (ℕ × X)) (i : ℕ) → RowsRise from rows → i < length rows → from ≤ key_at rows i
  least from [] i h there = absurd (omega (arith, there))
  least from (row ∷ rows) zero h there = h.0
  least from (row ∷ rows) (suc i) h there = omega (arith, least (row.0 + 1) rows i h.1 (omega (arith, there)), h.0)

  -- a row behind another has no lesser key
  pub never_falls : (from : ℕ) (rows : List (ℕ × X)) (i j : ℕ) → RowsRise from rows → i ≤ j → j < length rows → key_at rows i ≤ key_at rows j
  never_falls from [] i j h le there = absurd (omega (arith, there))
  never_falls from (row ∷ rows) zero zero h le there = omega arith
  never_falls from (row ∷ rows) zero (suc j) h le there = omega (arith, least (row.0 + 1) rows j h.1 (omega (arith, there)))
  never_falls from (row ∷ rows) (suc i) zero h le there = absurd (omega (arith, le))
  never_falls from (row ∷ rows) (suc i) (suc j) h le there = never_falls (row.0 + 1) rows i j h.1 (omega (arith, le)) (omega (arith, there))

  -- in the rows behind the first, a place is one lower
  at_rest : (row : ℕ × X) (rows : List (ℕ × X)) (k i : ℕ) → IsAt (row ∷ rows) k (suc i) → IsAt rows k i
  at_rest row rows k i at = record { there = omega (arith, at.there); has = at.has }

  gap_rest : (row : ℕ × X) (rows : List (ℕ × X)) (k i : ℕ) → IsGap (row ∷ rows) k (suc i) → IsGap rows k i
  gap_rest row rows k i gap =
      record {
        inside = omega (arith, gap.inside);
        before = λ j lt. gap.before (suc j) (omega (arith, lt));
        behind = λ j le lt. gap.behind (suc j) (omega (arith, le)) (omega (arith, lt));
      }

  -- They rise after a row was changed, put in or taken away.

  pub rise_set : (from : ℕ) (rows : List (ℕ × X)) (k i : ℕ) (x : X) → RowsRise from rows → IsAt rows k i → RowsRise from (slice_set rows i (k, x))
  rise_set from [] k i x h at = absurd (omega (arith, at.there))
  rise_set from (row ∷ rows) k zero x h at = (omega (arith, h.0, at.has), subst (λ n. RowsRise (n + 1) rows) at.has h.1)
  rise_set from (row ∷ rows) k (suc i) x h at = (h.0, rise_set (row.0 + 1) rows k i x h.1 (at_rest row rows k i at))

  pub rise_insert : (from : ℕ) (rows : List (ℕ × X)) (k i : ℕ) (x : X) → RowsRise from rows → from ≤ k → IsGap rows k i
      → RowsRise from (list.insert rows i (k, x))
  rise_insert from [] k zero x h low gap = (low, tt)
  rise_insert from [] k (suc i) x h low gap = absurd (omega (arith, gap.inside))
  rise_insert from (row ∷ rows) k zero x h low gap = (low, (omega (arith, gap.behind 0 (omega arith) (omega arith)), h.1))
  rise_insert from (row ∷ rows) k (suc i) x h low gap =
      (h.0, rise_insert (row.0 + 1) rows k i x h.1 (omega (arith, gap.before 0 (omega arith))) (gap_rest row rows k i gap))

  pub rise_remove : (from : ℕ) (rows : List (ℕ × X)) (i : ℕ) → RowsRise from rows → i < length rows → RowsRise from (list.remove rows i)
  rise_remove from [] i h there = absurd (omega (arith, there))
  rise_remove from (row ∷ rows) zero h there = rise_lower from (row.0 + 1) rows (omega (arith, h.0)) h.1
  rise_remove from (row ∷ rows) (suc i) h there = (h.0, rise_remove (row.0 + 1) rows i h.1 (omega (arith, there)))

  -- What is found by a key.

  find_below : (from : ℕ) (rows : List (ℕ × X)) (q : ℕ) → RowsRise from rows → q < from → find nat_cmp q rows ≡ None
  find_below from [] q h lt = refl
  find_below from (row ∷ rows) q h lt =
      ap (λ (b : Bool). cond b (Some row.1) (find nat_cmp q rows)) (differs q row.0 (λ same. omega (arith, h.0, lt, same)))
      ∙ find_below (row.0 + 1) rows q h.1 (omega (arith, h.0, lt))

  find_gap : (rows : List (ℕ × X)) (k i : ℕ) → IsGap rows k i → find nat_cmp k rows ≡ None
  find_gap [] k i gap = refl
  find_gap (row ∷ rows) k zero gap =
      ap (λ (b : Bool). cond b (Some row.1) (find nat_cmp k rows))
      (differs k row.0 (λ same. omega (arith, gap.behind 0 (omega arith) (omega arith), same)))
      ∙ find_gap rows k 0 (record {
        inside = omega arith;
        before = λ j lt. absurd (omega (arith, lt));
        behind = λ j le lt. gap.behind (suc j) (omega arith) (omega (arith, lt));
      })
  find_gap (row ∷ rows) k (suc i) gap =
      ap (λ (b : Bool). cond b (Some row.1) (find nat_cmp k rows)) (differs k row.0 (λ same. omega (arith, gap.before 0 (omega arith), same)))
      ∙ find_gap rows k i (gap_rest row rows k i gap)

  find_at : (from : ℕ) (rows : List (ℕ × X)) (k i : ℕ) (d : ℕ × X) → RowsRise from rows → IsAt rows k i
      → find nat_cmp k rows ≡ Some (get_or rows i d).1
  find_at from [] k i d h at = absurd (omega (arith, at.there))
  find_at from (row ∷ rows) k zero d h at = ap (λ (b : Bool). cond b (Some row.1) (find nat_cmp k rows)) (ties k row.0 (sym at.has))
  find_at from (row ∷ rows) k (suc i) d h at =
      let rest = at_rest row rows k i at in
      let apart = least (row.0 + 1) rows i h.1 rest.there in
      ap (λ (b : Bool). cond b (Some row.1) (find nat_cmp k rows)) (differs k row.0 (λ same. omega (arith, apart, rest.has, same)))
      ∙ find_at (row.0 + 1) rows k i d h.1 rest

  -- What changes of the rows do to it.

  shadowed : (b : Bool) (x y z : Option X) → cond b x z ≡ cond b x (cond b y z)
  shadowed true x y z = refl
  shadowed false x y z = refl

  swapped : (a b : Bool) (x y z : Option X) → (a ≡ true → b ≡ true → ⊥) → cond a x (cond b y z) ≡ cond b y (cond a x z)
  swapped true true x y z apart = absurd (apart refl refl)
  swapped true false x y z apart = refl
  swapped false b x y z apart = refl

  apart_at : (from : ℕ) (row : ℕ × X) (rows : List (ℕ × X)) (k i q : ℕ) → RowsRise from (row ∷ rows) → IsAt rows k i
      → tie q row.0 ≡ true → tie q k ≡ true → ⊥
  apart_at from row rows k i q h at one other =
      omega (arith, tied q row.0 one, tied q k other, least (row.0 + 1) rows i h.1 at.there, at.has)

  find_set : (from : ℕ) (rows : List (ℕ × X)) (k i : ℕ) (x : X) (q : ℕ) → RowsRise from rows → IsAt rows k i
      → find nat_cmp q (slice_set rows i (k, x)) ≡ cond (tie q k) (Some x) (find nat_cmp q rows)
  find_set from [] k i x q h at = absurd (omega (arith, at.there))
  find_set from (row ∷ rows) k zero x q h at =
      shadowed (tie q k) (Some x) (Some row.1) (find nat_cmp q rows)
      ∙ ap (λ n. cond (tie q k) (Some x) (cond (tie q n) (Some row.1) (find nat_cmp q rows))) (sym at.has)
  find_set from (row ∷ rows) k (suc i) x q h at =
      let rest = at_rest row rows k i at in
      ap (cond (tie q row.0) (Some row.1)) (find_set (row.0 + 1) rows k i x q h.1 rest)
      ∙ swapped (tie q row.0) (tie q k) (Some row.1) (Some x) (find nat_cmp q rows) (apart_at from row rows k i q h rest)

  find_insert : (rows : List (ℕ × X)) (k i : ℕ) (x : X) (q : ℕ) → IsGap rows k i
      → find nat_cmp q (list.insert rows i (k, x)) ≡ cond (tie q k) (Some x) (find nat_cmp q rows)
  find_insert rows k zero x q gap = refl
  find_insert [] k (suc i) x q gap = absurd (omega (arith, gap.inside))
  find_insert (row ∷ rows) k (suc i) x q gap =
      ap (cond (tie q row.0) (Some row.1)) (find_insert rows k i x q (gap_rest row rows k i gap))
      ∙ swapped (tie q row.0) (tie q k) (Some row.1) (Some x) (find nat_cmp q rows)
      (λ one other. omega (arith, tied q row.0 one, tied q k other, gap.before 0 (omega arith)))

  find_remove : (from : ℕ) (rows : List (ℕ × X)) (k i q : ℕ) → RowsRise from rows → IsAt rows k i
      → find nat_cmp q (list.remove rows i) ≡ cond (tie q k) None (find nat_cmp q rows)
  find_remove from [] k i q h at = absurd (omega (arith, at.there))
  find_remove from (row ∷ rows) k zero q h at = by (tie q k) refl
    where
      by : (b : Bool) → tie q k ≡ b → find nat_cmp q rows ≡ cond b None (cond (tie q row.0) (Some row.1) (find nat_cmp q rows))
      by true same = find_below (row.0 + 1) rows q h.1 (omega (arith, tied q k same, at.has))
      by false other = ap (λ (b : Bool). cond b (Some row.1) (find nat_cmp q rows)) (sym (ap (tie q) at.has ∙ other))
  find_remove from (row ∷ rows) k (suc i) q h at =
      let rest = at_rest row rows k i at in
      ap (cond (tie q row.0) (Some row.1)) (find_remove (row.0 + 1) rows k i q h.1 rest)
      ∙ swapped (tie q row.0) (tie q k) (Some row.1) None (find nat_cmp q rows) (apart_at from row rows k i q h rest)

  -- The map that rows stand for.

  -- what it has under the key of a row, and under one that would stand in a gap
  pub got_at : (rows : List (ℕ × X)) (k i : ℕ) (d : ℕ × X) → RowsRise 0 rows → IsAt rows k i → get (map_of rows) k ≡ Some (get_or rows i d).1
  got_at rows k i d h at = get-from_entries nat_cmp_total rows k ∙ find_at 0 rows k i d h at

  pub got_gap : (rows : List (ℕ × X)) (k i : ℕ) → IsGap rows k i → get (map_of rows) k ≡ None
  got_gap rows k i gap = get-from_entries nat_cmp_total rows k ∙ find_gap rows k i gap

  map_with : (old new : List (ℕ × X)) (k : ℕ) (x : X) → ((q : ℕ) → find nat_cmp q new ≡ cond (tie q k) (Some x) (find nat_cmp q old))
      → map_of new ≡ insert (map_of old) k x
  map_with old new k x h =
      alike _ _ (λ q. get-from_entries nat_cmp_total new q ∙ h q
      ∙ sym (get-insert nat_cmp_total (map_of old) k x q ∙ ap (cond (tie q k) (Some x)) (get-from_entries nat_cmp_total old q)))

  map_without : (old new : List (ℕ × X)) (k : ℕ) → ((q : ℕ) → find nat_cmp q new ≡ cond (tie q k) None (find nat_cmp q old))
      → map_of new ≡ remove (map_of old) k
  map_without old new k h =
      alike _ _ (λ q. get-from_entries nat_cmp_total new q ∙ h q
      ∙ sym (get-remove nat_cmp_total (map_of old) k q ∙ ap (cond (tie q k) None) (get-from_entries nat_cmp_total old q)))

  -- a row that is changed, put in or taken away
  pub map_set : (rows : List (ℕ × X)) (k i : ℕ) (x : X) → RowsRise 0 rows → IsAt rows k i
      → map_of (slice_set rows i (k, x)) ≡ insert (map_of rows) k x
  map_set rows k i x h at = map_with rows (slice_set rows i (k, x)) k x (λ q. find_set 0 rows k i x q h at)

  pub map_insert : (rows : List (ℕ × X)) (k i : ℕ) (x : X) → IsGap rows k i
      → map_of (list.insert rows i (k, x)) ≡ insert (map_of rows) k x
  map_insert rows k i x gap = map_with rows (list.insert rows i (k, x)) k x (λ q. find_insert rows k i x q gap)

  pub map_remove : (rows : List (ℕ × X)) (k i : ℕ) → RowsRise 0 rows → IsAt rows k i
      → map_of (list.remove rows i) ≡ remove (map_of rows) k
  map_remove rows k i h at = map_without rows (list.remove rows i) k (λ q. find_remove 0 rows k i q h at)

  -- it has as many entries as there are rows
  len_rows : (from : ℕ) (rows : List (ℕ × X)) → RowsRise from rows → len (map_of rows) ≡ length rows
  len_rows from [] h = len-empty nat_cmp X
  len_rows from (row ∷ rows) h =
      len-insert nat_cmp_total (map_of rows) row.0 row.1
      ∙ ap (λ (o : Option X). cond (is_some o) (len (map_of rows)) (len (map_of rows) + 1))
      (get-from_entries nat_cmp_total rows row.0 ∙ find_below (row.0 + 1) rows row.0 h.1 (omega (arith, h.0)))
      ∙ one_more (len (map_of rows)) (length rows) (len_rows (row.0 + 1) rows h.1)
    where
      one_more : (a b : ℕ) → a ≡ b → a + 1 ≡ suc b
      one_more a b h = omega arith

  -- the same of a map that the rows are known to stand for
  pub got : (m : FinMap nat_cmp X) (rows : List (ℕ × X)) (k i : ℕ) (row : ℕ × X) → map_of rows ≡ m → RowsRise 0 rows → IsAt rows k i
      → row ≡ get_or rows i row → Some row.1 ≡ get m k
  got m rows k i row same h at is = ap (λ (r : ℕ × X). Some r.1) is ∙ sym (got_at rows k i row h at) ∙ ap (λ (m : FinMap nat_cmp X). get m k) same

  pub got_none : (m : FinMap nat_cmp X) (rows : List (ℕ × X)) (k i : ℕ) → map_of rows ≡ m → IsGap rows k i → None ≡ get m k
  got_none m rows k i same gap = sym (got_gap rows k i gap) ∙ ap (λ (m : FinMap nat_cmp X). get m k) same

  pub counted : (m : FinMap nat_cmp X) (rows : List (ℕ × X)) → map_of rows ≡ m → RowsRise 0 rows → length rows ≡ len m
  counted m rows same h = sym (len_rows 0 rows h) ∙ ap len same

  -- a row's key, whatever stands beside it
  pub key_of : (rows : List (ℕ × X)) (i : ℕ) (d : ℕ × X) → i < length rows → (get_or rows i d).0 ≡ key_at rows i
  key_of rows i d there = sym (get_or-map (λ row. row.0) rows i d 0 there)

  -- Gaps.

  -- a key from that of a gap on, and before the next row, would stand in the same gap
  pub gap_between : (rows : List (ℕ × X)) (k i q : ℕ) → RowsRise 0 rows → IsGap rows k i → k ≤ q → (i < length rows → q < key_at rows i)
      → IsGap rows q i
  gap_between rows k i q h gap le lt =
      record {
        inside = gap.inside;
        before = λ j less. omega (arith, gap.before j less, le);
        behind = λ j from there. omega (arith, lt (omega (arith, from, there)), never_falls 0 rows i j h from there);
      }

  -- so would one more than that of a gap, if it isn't there
  gap_next : (rows : List (ℕ × X)) (k i : ℕ) (x : X) → RowsRise 0 rows → IsGap rows k i → get (map_of rows) (k + 1) ≡ None → IsGap rows (k + 1) i
  gap_next rows k i x h gap none = gap_between rows k i (k + 1) h gap (omega arith) (λ there. by there (cases_lt (k + 1) (key_at rows i)))
    where
      by : i < length rows → (k + 1 < key_at rows i) ⊎ (key_at rows i ≤ k + 1) → k + 1 < key_at rows i
      by there (inl less) = less
      by there (inr le) =
          let is : key_at rows i ≡ k + 1 = omega (arith, le, gap.behind i (omega arith) there) in
          let some = ap is_some (sym (got_at rows (k + 1) i (k, x) h (record { there = there; has = is })) ∙ none) in cc

  gap_cons : (row : ℕ × X) (rows : List (ℕ × X)) (k i : ℕ) → row.0 < k → IsGap rows k i → IsGap (row ∷ rows) k (suc i)
  gap_cons row rows k i less gap = record { inside = omega (arith, gap.inside); before = before; behind = behind }
    where
      before : (j : ℕ) → j < suc i → key_at (row ∷ rows) j < k
      before zero lt = less
      before (suc j) lt = gap.before j (omega (arith, lt))

      behind : (j : ℕ) → suc i ≤ j → j < length (row ∷ rows) → k < key_at (row ∷ rows) j
      behind zero le lt = absurd (omega (arith, le))
      behind (suc j) le lt = gap.behind j (omega (arith, le)) (omega (arith, lt))

  -- where two would stand in a gap, and the lesser is put there, the other would stand behind it
  gap_inserted : (rows : List (ℕ × X)) (k q i : ℕ) (x : X) → IsGap rows k i → IsGap rows q i → k < q → IsGap (list.insert rows i (k, x)) q (suc i)
  gap_inserted rows k q zero x one other lt = gap_cons (k, x) rows q 0 lt other
  gap_inserted [] k q (suc i) x one other lt = absurd (omega (arith, one.inside))
  gap_inserted (row ∷ rows) k q (suc i) x one other lt =
      gap_cons row (list.insert rows i (k, x)) q (suc i) (other.before 0 (omega arith))
      (gap_inserted rows k q i x (gap_rest row rows k i one) (gap_rest row rows q i other) lt)

  -- behind a row that was put into a gap the next key would stand, if it isn't there
  pub gap_behind : (rows : List (ℕ × X)) (k i : ℕ) (x : X) → RowsRise 0 rows → IsGap rows k i → get (map_of rows) (k + 1) ≡ None
      → IsGap (list.insert rows i (k, x)) (k + 1) (i + 1)
  gap_behind rows k i x h gap none =
      let on : suc i ≡ i + 1 = omega arith in
      subst (IsGap (list.insert rows i (k, x)) (k + 1)) on (gap_inserted rows k (k + 1) i x gap (gap_next rows k i x h gap none) (omega arith))

  -- What stands next, from a key on.

  -- a row is what its own key has
  row_there : (m : FinMap nat_cmp X) (rows : List (ℕ × X)) (i : ℕ) (row : ℕ × X) → map_of rows ≡ m → RowsRise 0 rows → i < length rows
      → row ≡ get_or rows i row → get m row.0 ≡ Some row.1
  row_there m rows i row same h there is =
      let has = sym (key_of rows i row there) ∙ sym (ap (λ (r : ℕ × X). r.0) is) in
      sym (got m rows row.0 i row same h (record { there = there; has = has }) is)

  -- the row of the key
  pub next_at : (m : FinMap nat_cmp X) (rows : List (ℕ × X)) (k i : ℕ) (row : ℕ × X) → map_of rows ≡ m → RowsRise 0 rows → IsAt rows k i
      → row ≡ get_or rows i row → IsNextOne m k (Some row)
  next_at m rows k i row same h at is =
      let own : row.0 ≡ k = ap (λ (r : ℕ × X). r.0) is ∙ key_of rows i row at.there ∙ at.has in
      (omega (arith, own), row_there m rows i row same h at.there is, λ q le lt. absurd (omega (arith, le, lt, own)))

  -- the row behind the gap for it
  pub next_behind : (m : FinMap nat_cmp X) (rows : List (ℕ × X)) (k i : ℕ) (row : ℕ × X) → map_of rows ≡ m → RowsRise 0 rows → IsGap rows k i
      → i < length rows → row ≡ get_or rows i row → IsNextOne m k (Some row)
  next_behind m rows k i row same h gap there is =
      let own : row.0 ≡ key_at rows i = ap (λ (r : ℕ × X). r.0) is ∙ key_of rows i row there in (
        omega (arith, own, gap.behind i (omega arith) there),
        row_there m rows i row same h there is,
        λ q le lt. sym (got_none m rows q i same (gap_between rows k i q h gap le (λ _. omega (arith, lt, own)))),
      )

  -- none behind the last
  pub next_none : (m : FinMap nat_cmp X) (rows : List (ℕ × X)) (k i : ℕ) → map_of rows ≡ m → RowsRise 0 rows → IsGap rows k i
      → (i < length rows → ⊥) → IsNextOne m k None
  next_none m rows k i same h gap end q le =
      sym (got_none m rows q i same (gap_between rows k i q h gap le (λ there. absurd (end there))))

  -- What a search finds.

  -- how they compare with a key rises, as a binary search asks
  comparisons_rise : (rows : List (ℕ × X)) (k : ℕ) (d : ℕ × X) → RowsRise 0 rows → IsNonDecreasingBy (λ row. ordering_index (nat_cmp row.0 k)) rows
  comparisons_rise rows k d h =
      IsNonDecreasingBy-from_default (λ row. ordering_index (nat_cmp row.0 k)) rows d (λ i j le there.
      at (get_or rows i d).0 (get_or rows j d).0
      (omega (arith, never_falls 0 rows i j h le there, key_of rows i d (omega (arith, le, there)), key_of rows j d there)))
    where
      at : (a b : ℕ) → a ≤ b → ordering_index (nat_cmp a k) ≤ ordering_index (nat_cmp b k)
      at a b le = grind (arith, nat_tests)

  searched_by : (d : ℕ × X) (rows : List (ℕ × X)) (k : ℕ) (r : Result ℕ ℕ) → RowsRise 0 rows → IsSearchInRange r (length rows)
      → IsBinarySearchResult (λ row. nat_cmp row.0 k) rows r → IfOk r (IsAt rows k) × IfErr r (IsGap rows k)
  searched_by d rows k (Ok i) h there is = (record { there = there; has = sym (key_of rows i d there) ∙ ranked _ k _ (sym (is d)) }, tt)
  searched_by d rows k (Err i) h inside parted =
      let split = parted (comparisons_rise rows k d h) in (
        tt,
        record {
          inside = inside;
          before = λ j lt. omega (arith, ranked _ k _ (sym (split.0 j d (omega arith) lt)), key_of rows j d (omega (arith, inside, lt)));
          behind = λ j le lt. omega (arith, ranked _ k _ (sym (split.1 j d le lt)), key_of rows j d lt);
        },
      )

  -- it ends at the row of the key, or at the gap for it
  pub searched : (rows : List (ℕ × X)) (k : ℕ) (r : Result ℕ ℕ) → RowsRise 0 rows → IsSearchInRange r (length rows)
      → IsBinarySearchResult (λ row. nat_cmp row.0 k) rows r → IfOk r (IsAt rows k) × IfErr r (IsGap rows k)
  searched [] k (Ok i) h there is = absurd (omega (arith, there))
  searched [] k (Err i) h inside parted =
      (tt, record { inside = inside; before = λ j lt. absurd (omega (arith, inside, lt)); behind = λ j le lt. absurd (omega (arith, lt)) })
  searched (row ∷ rows) k r h inside is = searched_by row (row ∷ rows) k r h inside is
