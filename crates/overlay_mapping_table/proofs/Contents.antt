use Rattle.std.proofs.Common.{◌≡◌, ℕ, zero, suc, ◌+◌, ◌-◌, ◌<◌, inl, inr, Bool, cond, List, [], ◌∷◌, length, get_or, slice_set, replicate, Option, Some, None, sym, ap, refl, ◌∙◌, arith}
use Rattle.std.specs.Prelude.{◌⊎◌}
use Rattle.std.specs.Option.{is_some}
use Rattle.std.specs.Ordering.{nat_cmp, is_eq}
use Rattle.std.specs.Cmp.{nat_cmp_total}
use Rattle.std.specs.FinMap.{FinMap, find, from_entries, empty, get, insert, remove, len, get-from_entries, len-empty, len-insert, len-remove}
use Rattle.std.proofs.lemmas.Bool.{cases_eq}
use Rattle.std.proofs.lemmas.List.{get_or-set_same, get_or-set_other}
use Rattle.number_maps.specs.Keys.{alike, by_key, differs, ties, get_same, get_other, removed_same, removed_other}
use Rattle.overlay_mapping_table.specs.Rows.{rows_of, map_of_slots, StandOnce}

-- Slots with rows, and the map that they stand for.

module _ {X : Type 0} where
  pub same_key : (k q : ℕ) (x y : X) → ◌≡◌ {A = Option (ℕ × X)} (Some (k, x)) (Some (q, y)) → k ≡ q
  same_key k q x y same = ap (λ (o : Option (ℕ × X)). key_or k o) same
    where
      key_or : ℕ → Option (ℕ × X) → ℕ
      key_or d None = d
      key_or d (Some row) = row.0

  abbrev pub none_of : Option (ℕ × X)
  none_of = None

  -- what is found under the key of a row, and under one that no slot has

  apart_rest : (slot : Option (ℕ × X)) (slots : List (Option (ℕ × X))) → StandOnce (slot ∷ slots) → StandOnce slots
  apart_rest slot slots apart k x y i j one two = let same = apart k x y (suc i) (suc j) one two in omega (arith, same)

  find_has : (slots : List (Option (ℕ × X))) (k i : ℕ) (x : X) → StandOnce slots → get_or slots i None ≡ Some (k, x)
      → find nat_cmp k (rows_of slots) ≡ Some x
  find_has [] k i x apart is = cc
  find_has (None ∷ slots) k zero x apart is = cc
  find_has (None ∷ slots) k (suc i) x apart is = find_has slots k i x (apart_rest None slots apart) is
  find_has (Some row ∷ slots) k zero x apart is =
      let same : row ≡ (k, x) = cc in
      ap (λ (r : ℕ × X). cond (nat_tie k r.0) (Some r.1) (find nat_cmp k (rows_of slots))) same
      ∙ ap (λ (b : Bool). cond b (Some x) (find nat_cmp k (rows_of slots))) (ties k k refl)
    where
      nat_tie : ℕ → ℕ → Bool
      nat_tie q p = is_eq (nat_cmp q p)
  find_has (Some row ∷ slots) k (suc i) x apart is =
      ap (λ (b : Bool). cond b (Some row.1) (find nat_cmp k (rows_of slots))) (differs k row.0 other)
      ∙ find_has slots k i x (apart_rest (Some row) slots apart) is
    where
      whole : ℕ → Option (ℕ × X)
      whole q = Some (q, row.1)

      other : k ≡ row.0 → ⊥
      other same = let both = apart k row.1 x 0 (suc i) (ap whole (sym same)) is in omega (arith, both)

  find_lacks : (slots : List (Option (ℕ × X))) (k : ℕ) → ((i : ℕ) (x : X) → get_or slots i None ≡ Some (k, x) → ⊥)
      → find nat_cmp k (rows_of slots) ≡ None
  find_lacks [] k lacks = refl
  find_lacks (None ∷ slots) k lacks = find_lacks slots k (λ i x is. lacks (suc i) x is)
  find_lacks (Some row ∷ slots) k lacks =
      ap (λ (b : Bool). cond b (Some row.1) (find nat_cmp k (rows_of slots)))
      (differs k row.0 (λ same. lacks 0 row.1 (let whole : ℕ → Option (ℕ × X) = λ q. Some (q, row.1) in ap whole (sym same))))
      ∙ find_lacks slots k (λ i x is. lacks (suc i) x is)

  -- what the map has under them
  pub got : (slots : List (Option (ℕ × X))) (k i : ℕ) (x : X) → StandOnce slots → get_or slots i None ≡ Some (k, x) → get (map_of_slots slots) k ≡ Some x
  unfolding map_of_slots
  got slots k i x apart is = get-from_entries nat_cmp_total (rows_of slots) k ∙ find_has slots k i x apart is

  pub got_none : (slots : List (Option (ℕ × X))) (k : ℕ) → ((i : ℕ) (x : X) → get_or slots i None ≡ Some (k, x) → ⊥) → get (map_of_slots slots) k ≡ None
  unfolding map_of_slots
  got_none slots k lacks = get-from_entries nat_cmp_total (rows_of slots) k ∙ find_lacks slots k lacks

  -- a key stands in a slot, or in none
  pub by_slot : {P : Type 0} (slots : List (Option (ℕ × X))) (k : ℕ) → ((i : ℕ) (x : X) → get_or slots i None ≡ Some (k, x) → P)
      → (((i : ℕ) (x : X) → get_or slots i None ≡ Some (k, x) → ⊥) → P) → P
  by_slot [] k there lacks = lacks (λ i x is. cc)
  by_slot {P = P} (None ∷ slots) k there lacks = by_slot slots k (λ i x is. there (suc i) x is) (λ none. lacks (more none))
    where
      more : ((i : ℕ) (x : X) → get_or slots i None ≡ Some (k, x) → ⊥) → (i : ℕ) (x : X) → get_or (None ∷ slots) i None ≡ Some (k, x) → ⊥
      more none zero x is = cc
      more none (suc i) x is = none i x is
  by_slot {P = P} (Some row ∷ slots) k there lacks =
      by_key row.0 k
      (λ same. there 0 row.1 (let whole : ℕ → Option (ℕ × X) = λ q. Some (q, row.1) in ap whole same))
      (λ other. by_slot slots k (λ i x is. there (suc i) x is) (λ none. lacks (more other none)))
    where
      more : (row.0 ≡ k → ⊥) → ((i : ℕ) (x : X) → get_or slots i None ≡ Some (k, x) → ⊥) → (i : ℕ) (x : X)
          → get_or (Some row ∷ slots) i None ≡ Some (k, x) → ⊥
      more other none zero x is = let same : row.0 ≡ k = cc in other same
      more other none (suc i) x is = none i x is

  -- slots with the same rows stand for the same map
  pub same_rows : (old new : List (Option (ℕ × X))) → StandOnce old → StandOnce new
      → ((k : ℕ) (x : X) (i : ℕ) → get_or old i None ≡ Some (k, x) → (j : ℕ) × (get_or new j None ≡ Some (k, x)))
      → ((k : ℕ) (x : X) (j : ℕ) → get_or new j None ≡ Some (k, x) → (i : ℕ) × (get_or old i None ≡ Some (k, x)))
      → map_of_slots new ≡ map_of_slots old
  same_rows old new before after kept back =
      alike _ _ (λ q. by_slot old q
      (λ i x is. got new q (kept q x i is).0 x after (kept q x i is).1 ∙ sym (got old q i x before is))
      (λ lacks. got_none new q (λ j x is. lacks (back q x j is).0 x (back q x j is).1) ∙ sym (got_none old q lacks)))

  -- A slot that has a key's row or none, where no other slot has one of it.
  pub record IsOwn (slots : List (Option (ℕ × X))) (k at : ℕ) : Type 0 where
    pub inside : at < length slots
    pub mine : (q : ℕ) (y : X) → get_or slots at None ≡ Some (q, y) → q ≡ k
    pub only : (i : ℕ) (y : X) → get_or slots i None ≡ Some (k, y) → i ≡ at

  by_at : {P : Type 0} (slots : List (Option (ℕ × X))) (at : ℕ) (o : Option (ℕ × X)) (i : ℕ) → at < length slots
      → (i ≡ at → get_or (slice_set slots at o) i None ≡ o → P)
      → ((i ≡ at → ⊥) → get_or (slice_set slots at o) i None ≡ get_or slots i None → P) → P
  by_at {P = P} slots at o i inside here other = by (cases_eq i at)
    where
      by : (i ≡ at) ⊎ (i ≡ at → ⊥) → P
      by (inl same) = here same (ap (λ j. get_or (slice_set slots at o) j None) same ∙ get_or-set_same slots at o None inside)
      by (inr differ) = other differ (get_or-set_other slots at i o None differ)

  pub apart_put : (slots : List (Option (ℕ × X))) (k at : ℕ) (x : X) → IsOwn slots k at → StandOnce slots → StandOnce (slice_set slots at (Some (k, x)))
  apart_put slots k at x own apart q y z i j one two = by_at slots at (Some (k, x)) i own.inside
      (λ here is. by_at slots at (Some (k, x)) j own.inside
      (λ there also. here ∙ sym there)
      (λ far kept.
      let key = same_key k q x y (sym is ∙ one) in
      absurd (far (own.only j z (sym kept ∙ two ∙ ap (λ (p : ℕ). Some (p, z)) (sym key))))))
      (λ away stays. by_at slots at (Some (k, x)) j own.inside
      (λ there also.
      let key = same_key k q x z (sym also ∙ two) in
      absurd (away (own.only i y (sym stays ∙ one ∙ ap (λ (p : ℕ). Some (p, y)) (sym key)))))
      (λ far kept. apart q y z i j (sym stays ∙ one) (sym kept ∙ two)))

  pub apart_take : (slots : List (Option (ℕ × X))) (at : ℕ) → at < length slots → StandOnce slots → StandOnce (slice_set slots at None)
  apart_take slots at inside apart q y z i j one two = by_at slots at None i inside
      (λ here is. absurd (cc (is, one)))
      (λ away stays. by_at slots at None j inside
      (λ there also. absurd (cc (also, two)))
      (λ far kept. apart q y z i j (sym stays ∙ one) (sym kept ∙ two)))

  pub map_put : (slots : List (Option (ℕ × X))) (k at : ℕ) (x : X) → IsOwn slots k at → StandOnce slots
      → map_of_slots (slice_set slots at (Some (k, x))) ≡ insert (map_of_slots slots) k x
  map_put slots k at x own apart = alike _ _ (λ q. by_key q k (λ same. put q same) (λ other. left q other))
    where
      new : List (Option (ℕ × X))
      new = slice_set slots at (Some (k, x))

      put : (q : ℕ) → q ≡ k → get (map_of_slots new) q ≡ get (insert (map_of_slots slots) k x) q
      put q same =
          ap (get (map_of_slots new)) same ∙ got new k at x (apart_put slots k at x own apart) (get_or-set_same slots at (Some (k, x)) None own.inside)
          ∙ sym (get_same (map_of_slots slots) k q x same)

      left : (q : ℕ) → (q ≡ k → ⊥) → get (map_of_slots new) q ≡ get (insert (map_of_slots slots) k x) q
      left q other = by_slot slots q
          (λ i y is.
          got new q i y (apart_put slots k at x own apart)
          (get_or-set_other slots at i (Some (k, x)) None (λ same. other (own.mine q y (ap (λ j. get_or slots j None) (sym same) ∙ is))) ∙ is)
          ∙ sym (got slots q i y apart is))
          (λ lacks. got_none new q (λ i y is. by_at slots at (Some (k, x)) i own.inside
          (λ here now. other (sym (same_key k q x y (sym now ∙ is))))
          (λ away stays. lacks i y (sym stays ∙ is)))
          ∙ sym (got_none slots q lacks))
          ∙ sym (get_other (map_of_slots slots) k q x other)

  pub map_take : (slots : List (Option (ℕ × X))) (k at : ℕ) → IsOwn slots k at → StandOnce slots
      → map_of_slots (slice_set slots at None) ≡ remove (map_of_slots slots) k
  map_take slots k at own apart = alike _ _ (λ q. by_key q k (λ same. gone q same) (λ other. left q other))
    where
      new : List (Option (ℕ × X))
      new = slice_set slots at None

      gone : (q : ℕ) → q ≡ k → get (map_of_slots new) q ≡ get (remove (map_of_slots slots) k) q
      gone q same =
          ap (get (map_of_slots new)) same
          ∙ got_none new k (λ i y is. by_at slots at None i own.inside (λ here now. cc (now, is)) (λ away stays. away (own.only i y (sym stays ∙ is))))
          ∙ sym (removed_same (map_of_slots slots) k q same)

      left : (q : ℕ) → (q ≡ k → ⊥) → get (map_of_slots new) q ≡ get (remove (map_of_slots slots) k) q
      left q other = by_slot slots q
          (λ i y is.
          got new q i y (apart_take slots at own.inside apart)
          (get_or-set_other slots at i None None (λ same. other (own.mine q y (ap (λ j. get_or slots j None) (sym same) ∙ is))) ∙ is)
          ∙ sym (got slots q i y apart is))
          (λ lacks. got_none new q (λ i y is. by_at slots at None i own.inside
          (λ here now. cc (now, is))
          (λ away stays. lacks i y (sym stays ∙ is)))
          ∙ sym (got_none slots q lacks))
          ∙ sym (removed_other (map_of_slots slots) k q other)

  -- How many there are.

  pub counted : (slots : List (Option (ℕ × X))) → StandOnce slots → len (map_of_slots slots) ≡ length (rows_of slots)
  unfolding map_of_slots
  counted [] apart = len-empty nat_cmp X
  counted (None ∷ slots) apart = counted slots (apart_rest None slots apart)
  counted (Some row ∷ slots) apart =
      len-insert nat_cmp_total (from_entries (rows_of slots)) row.0 row.1
      ∙ ap (λ (o : Option X). cond (is_some o) (len (from_entries {R = nat_cmp} (rows_of slots))) (len (from_entries {R = nat_cmp} (rows_of slots)) + 1)) lacks
      ∙ one_more (len (from_entries {R = nat_cmp} (rows_of slots))) (length (rows_of slots)) (counted slots (apart_rest (Some row) slots apart))
    where
      lacks : get (from_entries {R = nat_cmp} (rows_of slots)) row.0 ≡ None
      lacks =
          get-from_entries nat_cmp_total (rows_of slots) row.0
          ∙ find_lacks slots row.0 (λ i x is. let same = apart row.0 row.1 x 0 (suc i) refl is in omega (arith, same))

      one_more : (a b : ℕ) → a ≡ b → a + 1 ≡ suc b
      one_more a b h = omega arith

  -- where there are fewer rows than slots, one is empty
  pub spared : (slots : List (Option (ℕ × X))) → length (rows_of slots) < length slots → (e : ℕ) × (e < length slots) × (get_or slots e None ≡ None)
  spared [] less = absurd (omega (arith, less))
  spared (None ∷ slots) less = (0, omega arith, refl)
  spared (Some row ∷ slots) less = let rest = spared slots (omega (arith, less)) in (suc rest.0, omega (arith, rest.1), rest.2)

  pub len_put : (m : FinMap nat_cmp X) (k : ℕ) (x : X) → get m k ≡ None → len (insert m k x) ≡ len m + 1
  len_put m k x none =
      len-insert nat_cmp_total m k x ∙ ap (λ (o : Option X). cond (is_some o) (len m) (len m + 1)) none

  pub len_over : (m : FinMap nat_cmp X) (k : ℕ) (x y : X) → get m k ≡ Some y → len (insert m k x) ≡ len m
  len_over m k x y some =
      len-insert nat_cmp_total m k x ∙ ap (λ (o : Option X). cond (is_some o) (len m) (len m + 1)) some

  pub len_take : (m : FinMap nat_cmp X) (k : ℕ) (y : X) → get m k ≡ Some y → len (remove m k) ≡ len m - 1
  len_take m k y some =
      len-remove nat_cmp_total m k ∙ ap (λ (o : Option X). cond (is_some o) (len m - 1) (len m)) some

  -- slots of which each is empty
  pub rows_of_none : (n : ℕ) → rows_of (replicate n none_of) ≡ []
  rows_of_none zero = refl
  rows_of_none (suc n) = rows_of_none n

  pub map_of_none : (n : ℕ) → map_of_slots (replicate n none_of) ≡ empty
  unfolding map_of_slots
  map_of_none n = ap from_entries (rows_of_none n)

  pub some_row : (slots : List (Option (ℕ × X))) (i : ℕ) (row : ℕ × X) → get_or slots i None ≡ Some row → 0 < length (rows_of slots)
  some_row [] i row is = cc
  some_row (None ∷ slots) zero row is = cc
  some_row (None ∷ slots) (suc i) row is = some_row slots i row is
  some_row (Some here ∷ slots) i row is = omega arith
