use Rattle.std.proofs.Common.{◌≡◌, ℕ, zero, suc, ◌+◌, ◌-◌, ◌%◌, ◌^◌, ◌<◌, ◌≤◌, inl, inr, Bool, false, nat_lt, cond, List, [], ◌∷◌, length, get_or, slice_set, replicate, Option, Some, None, subst, sym, ap, refl, ◌∙◌, arith}
use Rattle.std.specs.Prelude.{◌⊎◌}
use Rattle.std.specs.Option.{option_map}
use Rattle.std.proofs.lemmas.Bool.{cases_eq, cases_lt}
use Rattle.std.proofs.lemmas.Bool.Decides.{nat_tests}
use Rattle.std.proofs.lemmas.List.{get_or_default, get_or-replicate, get_or-set_same, get_or-set_other, get_or_past, length-replicate, length-set}
use Rattle.overlay_address.specs.Names.{IsName, split_address}
use Rattle.overlay_mapping_table.specs.Rows.{slot_seen, slots_of, name_in, no_rows, AreSlots}

-- Slots, by the names and what stands beside them.

-- a name is the address of its first byte
splits : (name : ℕ) → IsName name → split_address name ≡ None → ⊥
splits name is none =
    let high : nat_lt name (2 ^ 63) ≡ false = grind (arith, nat_tests, is) in
    let now = sym (ap (λ (b : Bool). cond b None (Some (name - name % 4096, name % 4096))) high) ∙ none in
    cc (now)

whole : (name k o : ℕ) → IsName name → split_address name ≡ Some (k, o) → name ≡ k
whole name k o is split =
    let high : nat_lt name (2 ^ 63) ≡ false = grind (arith, nat_tests, is) in
    let now = sym (ap (λ (b : Bool). cond b None (Some (name - name % 4096, name % 4096))) high) ∙ split in
    let first : name - name % 4096 ≡ k = ap (λ (found : Option (ℕ × ℕ)). first_of found) now in
    omega (arith, is, first)
  where
    first_of : Option (ℕ × ℕ) → ℕ
    first_of None = 0
    first_of (Some found) = found.0

module _ {X : Type 0} where
  pub slot_at : (names : List ℕ) (xs : List X) (i : ℕ) (d : X) → length xs ≡ length names → i < length names
      → get_or (slots_of names xs) i None ≡ slot_seen (get_or names i 0) (get_or xs i d)
  unfolding slots_of
  slot_at [] xs i d same inside = absurd (omega (arith, inside))
  slot_at (name ∷ names) [] i d same inside = absurd (omega (arith, same))
  slot_at (name ∷ names) (x ∷ xs) zero d same inside = refl
  slot_at (name ∷ names) (x ∷ xs) (suc i) d same inside = slot_at names xs i d (omega (arith, same)) (omega (arith, inside))

  pub sized : (names : List ℕ) (xs : List X) → length xs ≡ length names → length (slots_of names xs) ≡ length names
  unfolding slots_of
  sized [] xs same = refl
  sized (name ∷ names) [] same = absurd (omega (arith, same))
  sized (name ∷ names) (x ∷ xs) same = ap suc (sized names xs (omega (arith, same)))

  pub set_both : (names : List ℕ) (xs : List X) (at name : ℕ) (x : X)
      → slots_of (slice_set names at name) (slice_set xs at x) ≡ slice_set (slots_of names xs) at (slot_seen name x)
  unfolding slots_of
  set_both [] xs at name x = refl
  set_both (m ∷ names) [] zero name x = refl
  set_both (m ∷ names) [] (suc at) name x = refl
  set_both (m ∷ names) (y ∷ xs) zero name x = refl
  set_both (m ∷ names) (y ∷ xs) (suc at) name x = ap (λ slots. slot_seen m y ∷ slots) (set_both names xs at name x)

  pub set_empty : (names : List ℕ) (xs : List X) (at : ℕ) → slots_of (slice_set names at 0) xs ≡ slice_set (slots_of names xs) at None
  unfolding slots_of slot_seen
  set_empty [] xs at = refl
  set_empty (m ∷ names) [] zero = refl
  set_empty (m ∷ names) [] (suc at) = refl
  set_empty (m ∷ names) (y ∷ xs) zero = refl
  set_empty (m ∷ names) (y ∷ xs) (suc at) = ap (λ slots. slot_seen m y ∷ slots) (set_empty names xs at)

  pub all_empty : (n : ℕ) (x : X) → slots_of (replicate n 0) (replicate n x) ≡ no_rows n
  unfolding slots_of slot_seen no_rows
  all_empty zero x = refl
  all_empty (suc n) x = ap (λ (slots : List (Option (ℕ × X))). None ∷ slots) (all_empty n x)

  -- what a slot has
  pub name_back : (name : ℕ) (x : X) → name_in (slot_seen name x) ≡ name
  unfolding slot_seen
  name_back zero x = refl
  name_back (suc name) x = refl

  pub value_back : (name : ℕ) (x : X) → (name ≡ 0 → ⊥) → option_map (λ (row : ℕ × X). row.1) (slot_seen name x) ≡ Some x
  unfolding slot_seen
  value_back zero x some = absurd (some refl)
  value_back (suc name) x some = refl

  pub none_back : (name : ℕ) (x : X) → name ≡ 0 → slot_seen name x ≡ None
  unfolding slot_seen
  none_back zero x none = refl
  none_back (suc name) x none = absurd (omega (arith, none))

  pub some_back : (name : ℕ) (x : X) → (name ≡ 0 → ⊥) → slot_seen name x ≡ Some (name, x)
  unfolding slot_seen
  some_back zero x some = absurd (some refl)
  some_back (suc name) x some = refl

  -- names and what stands beside them after a change
  pub kept_set : (names : List ℕ) (xs new : List X) (at name : ℕ) → AreSlots names xs → (name ≡ 0) ⊎ IsName name → length new ≡ length xs
      → AreSlots (slice_set names at name) new
  kept_set names xs new at name kept is size =
      record {
        same = same;
        size = sized (slice_set names at name) new same;
        each = λ i. by i (cases_lt at (length names)) (cases_eq i at);
      }
    where
      same : length new ≡ length (slice_set names at name)
      same = omega (arith, length-set names at name, size, kept.same)

      by : (i : ℕ) → (at < length names) ⊎ (length names ≤ at) → (i ≡ at) ⊎ (i ≡ at → ⊥)
          → (get_or (slice_set names at name) i 0 ≡ 0) ⊎ IsName (get_or (slice_set names at name) i 0)
      by i (inl inside) (inl here) =
          let now = ap (λ j. get_or (slice_set names at name) j 0) here ∙ get_or-set_same names at name 0 inside in
          subst (λ m. (m ≡ 0) ⊎ IsName m) (sym now) is
      by i (inr past) (inl here) =
          inl (get_or_past (slice_set names at name) i 0 (omega (arith, length-set names at name, past, here)))
      by i inside (inr other) = subst (λ m. (m ≡ 0) ⊎ IsName m) (sym (get_or-set_other names at i name 0 other)) (kept.each i)

  pub kept_put : (names : List ℕ) (xs : List X) (at name m : ℕ) (x : X) → AreSlots names xs → m ≡ name + 0 → IsName name
      → AreSlots (slice_set names at m) (slice_set xs at x)
  kept_put names xs at name m x kept same is =
      let number : name ≡ m = omega (arith, same) in
      kept_set names xs (slice_set xs at x) at m kept (inr (subst IsName number is)) (length-set xs at x)

  pub kept_clear : (names : List ℕ) (xs : List X) (at : ℕ) → AreSlots names xs → AreSlots (slice_set names at 0) xs
  kept_clear names xs at kept = kept_set names xs xs at 0 kept (inl refl) refl

  pub kept_carry : (slots : List (Option (ℕ × X))) (names : List ℕ) (xs : List X) (from to name : ℕ) (x : X) → slots_of names xs ≡ slots
      → AreSlots names xs → from < length slots → name ≡ get_or names from name
      → AreSlots (slice_set (slice_set names to name) from 0) (slice_set xs to x)
  kept_carry slots names xs from to name x stands kept within is =
      let inside : from < length names = omega (arith, within, ap length stands, kept.size) in
      kept_clear (slice_set names to name) (slice_set xs to x) from
      (kept_set names xs (slice_set xs to x) to name kept
      (subst (λ m. (m ≡ 0) ⊎ IsName m) (sym (is ∙ get_or_default names from name 0 inside)) (kept.each from))
      (length-set xs to x))

  pub kept_new : (names : List ℕ) (xs : List X) (n : ℕ) (x : X) → names ≡ replicate n 0 → xs ≡ replicate n x → AreSlots names xs
  kept_new names xs n x is beside =
      record {
        same = same;
        size = sized names xs same;
        each = λ i. inl (zero i);
      }
    where
      same : length xs ≡ length names
      same =
          let left : length (replicate n zero) ≡ n = length-replicate n zero in
          ap length beside ∙ length-replicate n x ∙ sym (ap length is ∙ left)

      zero_at : (i : ℕ) → (i < n) ⊎ (n ≤ i) → ◌≡◌ {A = ℕ} (get_or (replicate n 0) i 0) 0
      zero_at i (inl inside) = get_or-replicate n i 0 0 inside
      zero_at i (inr past) = get_or_past (replicate n 0) i 0 (let size : length (replicate n zero) ≡ n = length-replicate n zero in omega (arith, past, size))

      zero : (i : ℕ) → get_or names i 0 ≡ 0
      zero i = ap (λ (ns : List ℕ). get_or ns i 0) is ∙ zero_at i (cases_lt i n)

  -- what the slots are after a change
  pub stands_put : (slots : List (Option (ℕ × X))) (names : List ℕ) (xs : List X) (at name m : ℕ) (x : X) → slots_of names xs ≡ slots
      → m ≡ name + 0 → IsName name
      → slots_of (slice_set names at m) (slice_set xs at x) ≡ slice_set slots at (Some (name, x))
  stands_put slots names xs at name m x same is named =
      set_both names xs at m x
      ∙ ap (λ (o : Option (ℕ × X)). slice_set (slots_of names xs) at o) (ap (λ k. slot_seen k x) number ∙ some_back name x (λ none. omega (arith, named, none)))
      ∙ ap (λ (ss : List (Option (ℕ × X))). slice_set ss at (Some (name, x))) same
    where
      number : m ≡ name
      number = omega (arith, is)

  pub stands_clear : (slots : List (Option (ℕ × X))) (names : List ℕ) (xs : List X) (at : ℕ) → slots_of names xs ≡ slots
      → slots_of (slice_set names at 0) xs ≡ slice_set slots at None
  stands_clear slots names xs at same = set_empty names xs at ∙ ap (λ (ss : List (Option (ℕ × X))). slice_set ss at None) same

  pub stands_carry : (slots : List (Option (ℕ × X))) (names : List ℕ) (xs : List X) (from to name : ℕ) (x : X) → slots_of names xs ≡ slots
      → AreSlots names xs → from < length slots → name ≡ get_or names from name → x ≡ get_or xs from x
      → slots_of (slice_set (slice_set names to name) from 0) (slice_set xs to x)
      ≡ slice_set (slice_set slots to (get_or slots from None)) from None
  stands_carry slots names xs from to name x same kept within is beside =
      set_empty (slice_set names to name) (slice_set xs to x) from
      ∙ ap (λ (ss : List (Option (ℕ × X))). slice_set ss from None)
      (set_both names xs to name x ∙ ap (λ (o : Option (ℕ × X)). slice_set (slots_of names xs) to o) carried
      ∙ ap (λ (ss : List (Option (ℕ × X))). slice_set ss to (get_or ss from None)) same)
    where
      inside : from < length names
      inside = omega (arith, within, ap length same, kept.size)

      carried : slot_seen name x ≡ get_or (slots_of names xs) from None
      carried =
          ap (λ k. slot_seen k x) (is ∙ get_or_default names from name 0 inside)
          ∙ ap (λ (y : X). slot_seen (get_or names from 0) y) beside
          ∙ sym (slot_at names xs from x kept.same inside)

  -- what is read of a slot
  module _ (slots : List (Option (ℕ × X))) (names : List ℕ) (xs : List X) (at : ℕ) (stands : slots_of names xs ≡ slots) (kept : AreSlots names xs)
      (within : at < length slots) where
    inside : at < length names
    inside = omega (arith, within, ap length stands, kept.size)

    -- by the name that was read
    slot_is : (name : ℕ) (d : X) → name ≡ get_or names at name → get_or slots at None ≡ slot_seen name (get_or xs at d)
    slot_is name d is =
        ap (λ (ss : List (Option (ℕ × X))). get_or ss at None) (sym stands)
        ∙ slot_at names xs at d kept.same inside
        ∙ ap (λ k. slot_seen k (get_or xs at d)) (sym (is ∙ get_or_default names at name 0 inside))

    named : (name : ℕ) → name ≡ get_or names at name → (name ≡ 0) ⊎ IsName name
    named name is = subst (λ m. (m ≡ 0) ⊎ IsName m) (sym (is ∙ get_or_default names at name 0 inside)) (kept.each at)

    pub number_read : (name : ℕ) (d : X) → name ≡ get_or names at name → name ≡ name_in (get_or slots at None)
    number_read name d is = sym (name_back name (get_or xs at d)) ∙ ap name_in (sym (slot_is name d is))

    pub value_none : (name : ℕ) (d : X) → name ≡ get_or names at name → name ≡ 0
        → ◌≡◌ {A = Option X} None (option_map (λ (row : ℕ × X). row.1) (get_or slots at None))
    value_none name d is none =
        ap (λ (o : Option (ℕ × X)). option_map (λ (row : ℕ × X). row.1) o) (sym (none_back name (get_or xs at d) none) ∙ sym (slot_is name d is))

    pub value_some : (name : ℕ) (x : X) → name ≡ get_or names at name → (name ≡ 0 → ⊥) → x ≡ get_or xs at x
        → ◌≡◌ {A = Option X} (Some x) (option_map (λ (row : ℕ × X). row.1) (get_or slots at None))
    value_some name x is some beside =
        ap (λ (y : X). Some y) beside
        ∙ sym (value_back name (get_or xs at x) some)
        ∙ ap (λ (o : Option (ℕ × X)). option_map (λ (row : ℕ × X). row.1) o) (sym (slot_is name x is))

    pub name_some : (name k o : ℕ) (d : X) → name ≡ get_or names at name → split_address name ≡ Some (k, o)
        → ◌≡◌ {A = Option ℕ} (Some k) (option_map (λ (row : ℕ × X). row.0) (get_or slots at None))
    name_some name k o d is split = by (named name is)
      where
        by : (name ≡ 0) ⊎ IsName name → ◌≡◌ {A = Option ℕ} (Some k) (option_map (λ (row : ℕ × X). row.0) (get_or slots at None))
        by (inl none) = let zero_splits = ap split_address none in absurd (cc (zero_splits, split))
        by (inr true_name) =
            ap (λ (m : ℕ). Some m) (sym (whole name k o true_name split))
            ∙ ap (λ (o : Option (ℕ × X)). option_map (λ (row : ℕ × X). row.0) o)
            (sym (some_back name (get_or xs at d) (λ none. omega (arith, true_name, none))) ∙ sym (slot_is name d is))

    pub name_none : (name : ℕ) (d : X) → name ≡ get_or names at name → split_address name ≡ None
        → ◌≡◌ {A = Option ℕ} None (option_map (λ (row : ℕ × X). row.0) (get_or slots at None))
    name_none name d is split = by (named name is)
      where
        by : (name ≡ 0) ⊎ IsName name → ◌≡◌ {A = Option ℕ} None (option_map (λ (row : ℕ × X). row.0) (get_or slots at None))
        by (inl none) =
            ap (λ (o : Option (ℕ × X)). option_map (λ (row : ℕ × X). row.0) o)
            (sym (none_back name (get_or xs at d) none) ∙ sym (slot_is name d is))
        by (inr true_name) = absurd (splits name true_name split)
