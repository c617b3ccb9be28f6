use Rattle.std.proofs.Common.{◌≡◌, ℕ, ◌+◌, ◌-◌, ◌%◌, ◌<◌, ◌≤◌, inl, inr, true, nat_lt, List, length, get_or, Option, Some, None, subst, sym, ap, refl, ◌∙◌, arith}
use Rattle.std.specs.Prelude.{◌⊎◌}
use Rattle.std.proofs.Math.Nat.{add-mod_left, mod-eq_of_lt, mod-lt, mod-mod}
use Rattle.std.specs.Option.{option_map}
use Rattle.std.proofs.lemmas.Bool.{cases_lt, cases_order}
use Rattle.std.proofs.lemmas.Bool.Decides.{nat_tests}
use Rattle.std.proofs.lemmas.List.{get_or_past}
use Rattle.overlay_address.specs.Names.{IsName}
use Rattle.overlay_mapping_table.specs.declared.entry.Entry.{Entry}
use Rattle.overlay_mapping_table.specs.Homes.{home_number, IsWay}
use Rattle.overlay_mapping_table.specs.Rows.{name_in, ring, AreInOrder, HasWay}
use Rattle.overlay_mapping_table.specs.Probes.{AreSound, IsBefore, IsBeyond, WouldStandAt, IsPassed, IsPast, StandsAt}
use Rattle.overlay_mapping_table.proofs.Ways.{Placed, placed, same_plus, way_at, way_once, way_there}
use Rattle.overlay_mapping_table.proofs.Contents.{same_key}

-- Where rows stand, and how they are found.

-- a slot that has a row is one of the slots
pub within : {X : Type 0} (slots : List (Option X)) (i : ℕ) (x : X) → get_or slots i None ≡ Some x → i < length slots
within {X = X} slots i x is = by (cases_lt i (length slots))
  where
    by : (i < length slots) ⊎ (length slots ≤ i) → i < length slots
    by (inl less) = less
    by (inr le) = let past : get_or slots i None ≡ None = get_or_past slots i None le in absurd (cc (past, is))

module _ (n : ℕ) (slots : List (Option (ℕ × Entry))) where
  -- places that are one slot have the same row
  pub has_at : (w p q : ℕ) → p % n ≡ q % n → HasWay n slots p w → HasWay n slots q w
  has_at w p q same has =
      record {
        name = has.name;
        value = has.value;
        is = ap (λ j. get_or slots j None) (sym same) ∙ has.is;
        way = way_at n (home_number has.name) w p q same has.way;
      }

  -- which has one way
  pub has_once : (w v p q : ℕ) → HasWay n slots p w → HasWay n slots q v → p % n ≡ q % n → w ≡ v
  has_once w v p q one other same =
      let both = sym one.is ∙ ap (λ j. get_or slots j None) same ∙ other.is in
      let name = same_key one.name other.name one.value other.value both in
      way_once n (home_number other.name) w v p q (subst (λ k. IsWay n (home_number k) w p) name one.way) other.way same

  pub not_bare : (w p q : ℕ) → HasWay n slots p w → ring n slots q ≡ None → p % n ≡ q % n → ⊥
  not_bare w p q has none same =
      let there = ap (λ j. get_or slots j None) (sym same) ∙ has.is in cc (none, there)

  -- a row at a place has a way
  pub has_row : (p : ℕ) (row : ℕ × Entry) → 0 < n → ring n slots p ≡ Some row → HasWay n slots p ((p + n - home_number row.0 % n) % n)
  has_row p row some is = record { name = row.0; value = row.1; is = is; way = way_there n (home_number row.0) p some }

  pub has_some : (p : ℕ) → 0 < n → (ring n slots p ≡ None → ⊥) → (w : ℕ) × HasWay n slots p w
  has_some p some taken = by (ring n slots p) refl
    where
      by : (o : Option (ℕ × Entry)) → ring n slots p ≡ o → (w : ℕ) × HasWay n slots p w
      by None is = absurd (taken is)
      by (Some row) is = ((p + n - home_number row.0 % n) % n, has_row p row some is)

  -- where a place has a row whose home lies before a bound, so has each place between
  pub all_before : (from y : ℕ) → AreInOrder n slots → IsBefore n slots from y → (i : ℕ) → from ≤ i → i ≤ y → IsBefore n slots from i
  all_before from y order is i low le = by (cases_lt i y)
    where
      by : (i < y) ⊎ (y ≤ i) → IsBefore n slots from i
      by (inl less) =
          let led = order y is.way i is.has less (omega (arith, low, is.before)) in
          record { way = led.0; has = led.1; before = omega (arith, is.before, led.2) }
      by (inr ge) = let same : y ≡ i = omega (arith, le, ge) in subst (IsBefore n slots from) same is

  -- nothing is passed yet
  pub begun : (from : ℕ) → IsPassed n slots from from
  begun from = record { low = omega arith; passed = λ i low less. absurd (omega (arith, low, less)) }

  -- a leap
  pub leapt : (from low next : ℕ) → AreInOrder n slots → IsPassed n slots from low → low ≤ next → IsBefore n slots from next
      → IsPassed n slots from (next + 1)
  leapt from low next order past le is =
      record { low = omega (arith, past.low, le); passed = λ i low less. all_before from next order is i low (omega (arith, less)) }

-- A search between two places.
pub record IsBetween (n : ℕ) (slots : List (Option (ℕ × Entry))) (from low high : ℕ) : Type 0 where
  pub passed : IsPassed n slots from low
  pub order : low ≤ high
  pub round : high ≤ from + n
  pub stops : IsBefore n slots from high → ⊥

module _ (n : ℕ) (slots : List (Option (ℕ × Entry))) (from low middle high : ℕ) (between : IsBetween n slots from low high) (above : low ≤ middle)
    (below : middle < high) where
  pub halved_up : AreInOrder n slots → IsBefore n slots from middle → IsBetween n slots from (middle + 1) high
  halved_up order is =
      record {
        passed = leapt n slots from low middle order between.passed above is;
        order = omega (arith, below);
        round = between.round;
        stops = between.stops;
      }

  pub halved_down : (IsBefore n slots from middle → ⊥) → IsBetween n slots from low middle
  halved_down stops = record { passed = between.passed; order = above; round = omega (arith, below, between.round); stops = stops }

module _ (slots : List (Option (ℕ × Entry))) (sound : AreSound slots) where
  pub some : 0 < length slots
  some = omega (arith, sound.spare.1.inside)

  -- an empty place in each round
  pub spare_from : (from : ℕ) → (e : ℕ) × (from ≤ e) × (e < from + length slots) × (ring (length slots) slots e ≡ None)
  spare_from from =
      let at = placed (length slots) from sound.spare.0 some in
      (at.place, at.low, at.near, ap (λ j. get_or slots j None) (at.same ∙ mod-eq_of_lt sound.spare.1.inside) ∙ sound.spare.1.bare)

  -- so a search ends within a round
  pub nearer : (from low : ℕ) → IsPassed (length slots) slots from low → low < from + length slots
  nearer from low past = by (cases_lt low (from + length slots))
    where
      by : (low < from + length slots) ⊎ (from + length slots ≤ low) → low < from + length slots
      by (inl less) = less
      by (inr le) =
          let e = spare_from from in
          let has = past.passed e.0 e.1 (omega (arith, e.2, le)) in
          absurd (not_bare (length slots) slots has.way e.0 e.0 has.has e.3 refl)

  -- a round further on no row's home lies before
  pub never : (from : ℕ) → IsBefore (length slots) slots from (from + length slots) → ⊥
  never from is =
      let e = spare_from from in
      let has = all_before (length slots) slots from (from + length slots) sound.order is e.0 e.1 (omega (arith, e.2)) in
      not_bare (length slots) slots has.way e.0 e.0 has.has e.3 refl

  pub stopped : (from low high : ℕ) → IsBetween (length slots) slots from low high → high ≤ low → IsBeyond (length slots) slots from low
  stopped from low high between le =
      let same : low ≡ high = omega (arith, between.order, le) in
      record {
        passed = between.passed;
        near = nearer from low between.passed;
        stops = λ is. between.stops (subst (IsBefore (length slots) slots from) same is);
      }

-- the way from a home
pub home_way : (n k home place : ℕ) → home % n ≡ k % n → home ≤ place → place < home + n → IsWay n k (place - home) place
home_way n k home place same low near =
    record {
      same =
          same_plus n k home (place - home) (sym same)
          ∙ (let back : home + (place - home) ≡ place = omega (arith, low) in ap (λ x. x % n) back);
      near = omega (arith, low, near);
    }

-- A probe for a name.

module _ (slots : List (Option (ℕ × Entry))) (name home : ℕ) (sound : AreSound slots)
    (same : home ≡ length slots + home_number name % length slots) where
  is_home : home % length slots ≡ home_number name % length slots
  is_home =
      ap (λ x. x % length slots) same
      ∙ add-mod_left (length slots) (home_number name % length slots)
      ∙ mod-mod (home_number name) (length slots)

  pub past_begun : (place : ℕ) → IsBeyond (length slots) slots home place → IsPast (length slots) slots name home place
  past_begun place beyond =
      record {
        low = beyond.passed.low;
        led = λ i low less. let is = beyond.passed.passed i low less in record { way = is.way; has = is.has; before = omega (arith, is.before) };
        other = λ i x low less there. other i x low less there (beyond.passed.passed i low less);
      }
    where
      other : (i : ℕ) (x : Entry) → home ≤ i → i < place → ring (length slots) slots i ≡ Some (name, x) → IsBefore (length slots) slots home i → ⊥
      other i x low less there is =
          let way = home_way (length slots) (home_number name) home i is_home low (omega (arith, less, beyond.near)) in
          let here : HasWay (length slots) slots i (i - home) = record { name = name; value = x; is = there; way = way } in
          let equal = has_once (length slots) slots is.way (i - home) i i is.has here refl in
          omega (arith, equal, is.before, low)

  -- it ends within a round
  pub past_near : (place : ℕ) → IsPast (length slots) slots name home place → place < home + length slots
  past_near place past = by (cases_lt place (home + length slots))
    where
      by : (place < home + length slots) ⊎ (home + length slots ≤ place) → place < home + length slots
      by (inl less) = less
      by (inr le) =
          let e = spare_from slots sound home in
          let has = past.led e.0 e.1 (omega (arith, e.2, le)) in
          absurd (not_bare (length slots) slots has.way e.0 e.0 has.has e.3 refl)

  -- what was read isn't the name's
  not_here : (place at number : ℕ) (x : Entry) → at ≡ place % length slots → number ≡ name_in (get_or slots at None) → (number ≡ name → ⊥)
      → ring (length slots) slots place ≡ Some (name, x) → ⊥
  not_here place at number x here read differs there =
      differs (read ∙ ap (λ i. name_in (get_or slots i None)) here ∙ ap name_in there)

  -- nothing is past yet, and an empty home is where it would stand
  none_past : IsPast (length slots) slots name home home
  none_past = record {
    low = omega arith;
    led = λ i low less. absurd (omega (arith, low, less));
    other = λ i x low less. absurd (omega (arith, low, less));
  }

  pub gap_found : (place at number : ℕ) → IsPast (length slots) slots name home place → at ≡ place % length slots
      → number ≡ name_in (get_or slots at None) → (number ≡ name → ⊥) → (IsBefore (length slots) slots (home + 1) place → ⊥)
      → WouldStandAt slots name place
  gap_found place at number past here read differs stops =
      record {
        low = omega (arith, past.low, same);
        near = omega (arith, near, same, below);
        steps = place - home;
        way = home_way (length slots) (home_number name) home place is_home past.low near;
        led = λ i less le. let is = past.led i (omega (arith, less, le, past.low)) less in (is.way, is.has, omega (arith, is.before, past.low));
        stops = λ v has. behind v has (cases_lt v (place - home));
        absent = λ i x is. nowhere i x is;
      }
    where
      near : place < home + length slots
      near = past_near place past

      below : home_number name % length slots < length slots
      below = mod-lt (home_number name) (some slots sound)

      behind : (v : ℕ) → HasWay (length slots) slots place v → (v < place - home) ⊎ (place - home ≤ v) → v < place - home
      behind v has (inl less) = less
      behind v has (inr ge) = absurd (stops (record { way = v; has = has; before = omega (arith, ge, past.low) }))

      nowhere : (i : ℕ) (x : Entry) → get_or slots i None ≡ Some (name, x) → ⊥
      nowhere i x is = by place_at there (cases_order place_at.place place)
        where
          place_at : Placed (length slots) home i
          place_at = placed (length slots) home i (some slots sound)

          there : ring (length slots) slots place_at.place ≡ Some (name, x)
          there = ap (λ j. get_or slots j None) (place_at.same ∙ mod-eq_of_lt (within slots i (name, x) is)) ∙ is

          by : (p : Placed (length slots) home i) → ring (length slots) slots p.place ≡ Some (name, x)
              → (p.place ≡ place) ⊎ ((p.place < place) ⊎ (place < p.place)) → ⊥
          by p there (inl equal) = not_here place at number x here read differs (ap (λ j. ring (length slots) slots j) (sym equal) ∙ there)
          by p there (inr (inl before)) = past.other p.place x p.low before there
          by p there (inr (inr behind)) =
              let way = home_way (length slots) (home_number name) home p.place is_home p.low p.near in
              let has : HasWay (length slots) slots p.place (p.place - home) = record { name = name; value = x; is = there; way = way } in
              let led = sound.order p.place (p.place - home) place has behind (omega (arith, past.low, p.low)) in
              stops (record { way = led.0; has = led.1; before = omega (arith, led.2, p.low) })

  pub gap_at_home : (at number : ℕ) (read : Option ℕ) → at ≡ home_number name % length slots → number ≡ name_in (get_or slots at None) → (number ≡ name → ⊥)
      → read ≡ option_map (λ (row : ℕ × Entry). row.0) (get_or slots at None) → read ≡ None → WouldStandAt slots name home
  gap_at_home at number read slot is differs named none =
      gap_found home at number none_past (slot ∙ sym is_home) is differs
      (λ before. not_bare (length slots) slots before.way home home before.has (ap (λ i. get_or slots i None) (is_home ∙ sym slot) ∙ by (get_or slots at None) refl) refl)
    where
      by : (o : Option (ℕ × Entry)) → get_or slots at None ≡ o → get_or slots at None ≡ None
      by None empty = empty
      by (Some row) there =
          let has = sym none ∙ named ∙ ap (option_map (λ (r : ℕ × Entry). r.0)) there in cc

-- the slot whose number was read has the name
pub found : (slots : List (Option (ℕ × Entry))) (name at number : ℕ) → at < length slots → number ≡ name_in (get_or slots at None) → number ≡ name
    → IsName name → StandsAt slots name at
found slots name at number inside read same is = by (get_or slots at None) refl
  where
    by : (o : Option (ℕ × Entry)) → get_or slots at None ≡ o → StandsAt slots name at
    by None none = let zero : number ≡ 0 = read ∙ ap name_in none in absurd (omega (arith, zero, same, is))
    by (Some row) there =
        let equal : row.0 ≡ name = sym (ap name_in there) ∙ sym read ∙ same in
        let whole : ℕ → Option (ℕ × Entry) = λ q. Some (q, row.1) in
        record { inside = inside; value = row.1; is = there ∙ ap whole equal }

-- Whether a row's home lies before a bound, by the name that was read.
module _ (slots : List (Option (ℕ × Entry))) (bound place at : ℕ) (same : at ≡ place % length slots) where
  pub before_none : ◌≡◌ {A = Option ℕ} None (option_map (λ (row : ℕ × Entry). row.0) (get_or slots at None))
      → IsBefore (length slots) slots bound place → ⊥
  before_none none is =
      let there : get_or slots at None ≡ Some (is.has.name, is.has.value) = ap (λ i. get_or slots i None) same ∙ is.has.is in
      let name = none ∙ ap (option_map (λ (row : ℕ × Entry). row.0)) there in
      cc (name)

  has_name : (name : ℕ) → ◌≡◌ {A = Option ℕ} (Some name) (option_map (λ (row : ℕ × Entry). row.0) (get_or slots at None))
      → (x : Entry) × (ring (length slots) slots place ≡ Some (name, x))
  has_name name read = by (get_or slots at None) (ap (λ i. get_or slots i None) (sym same)) read
    where
      by : (o : Option (ℕ × Entry)) → ring (length slots) slots place ≡ o → ◌≡◌ {A = Option ℕ} (Some name) (option_map (λ (row : ℕ × Entry). row.0) o)
          → (x : Entry) × (ring (length slots) slots place ≡ Some (name, x))
      by None there is = absurd (cc (is))
      by (Some row) there is =
          let equal : row.0 ≡ name = cc (is) in
          let whole : ℕ → Option (ℕ × Entry) = λ q. Some (q, row.1) in
          (row.1, there ∙ ap whole equal)

  pub before_some : (name way : ℕ) → ◌≡◌ {A = Option ℕ} (Some name) (option_map (λ (row : ℕ × Entry). row.0) (get_or slots at None))
      → IsWay (length slots) (home_number name) way place
      → (nat_lt place (bound + way) ≡ true → IsBefore (length slots) slots bound place)
      × (IsBefore (length slots) slots bound place → nat_lt place (bound + way) ≡ true)
  before_some name way read steps = (to, fro)
    where
      has : HasWay (length slots) slots place way
      has = let row = has_name name read in record { name = name; value = row.0; is = row.1; way = steps }

      to : nat_lt place (bound + way) ≡ true → IsBefore (length slots) slots bound place
      to less = record { way = way; has = has; before = grind (arith, nat_tests, less) }

      fro : IsBefore (length slots) slots bound place → nat_lt place (bound + way) ≡ true
      fro is =
          let equal = has_once (length slots) slots is.way way place place is.has has refl in
          grind (arith, nat_tests, is.before, equal)
