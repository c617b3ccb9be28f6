use Rattle.std.proofs.Common.{◌≡◌, ℕ, ◌+◌, ◌-◌, ◌%◌, ◌<◌, ◌≤◌, inl, inr, true, false, List, length, get_or, slice_set, Option, Some, None, subst, sym, ap, refl, ◌∙◌, arith}
use Rattle.std.specs.Prelude.{◌⊎◌}
use Rattle.std.specs.Option.{is_some, option_map}
use Rattle.std.specs.FinMap.{FinMap, insert, remove}
use Rattle.std.specs.Ordering.{nat_cmp}
use Rattle.std.proofs.Math.Nat.{add-mod_left, mod-eq_of_lt, mod-lt}
use Rattle.std.proofs.lemmas.Bool.{cases_eq, cases_lt}
use Rattle.std.proofs.lemmas.List.{get_or-set_same, get_or-set_other, length-set}
use Rattle.overlay_mapping_table.specs.declared.entry.Entry.{Entry}
use Rattle.overlay_mapping_table.specs.declared.full.Full.{Full}
use Rattle.overlay_mapping_table.specs.Rows.{map_of_slots, ring, AreInOrder, HasWay}
use Rattle.overlay_mapping_table.specs.Probes.{AreNow, AreSound, IsBefore, IsBeyond, WouldStandAt, StandsAt}
use Rattle.overlay_mapping_table.specs.Shifts.{AreLowered, AreRaised, IsEnd, HaveRows, IsLastRow}
use Rattle.overlay_mapping_table.proofs.Contents.{IsOwn, same_key, apart_put, apart_take, map_put, map_take, same_rows}
use Rattle.overlay_mapping_table.proofs.Searching.{not_bare, some, spare_from}
use Rattle.overlay_mapping_table.proofs.Moving.{two_slots}
use Rattle.overlay_mapping_table.proofs.Ordering.{order_put, order_take}

-- How far rows are moved, and what the slots are then.

-- the first empty place from one on
module _ (slots : List (Option (ℕ × Entry))) (sound : AreSound slots) (place end : ℕ) (low : place ≤ end)
    (taken : (i : ℕ) → place ≤ i → i < end → ring (length slots) slots i ≡ None → ⊥) where
  pub end_near : end < place + length slots
  end_near =
      let e = spare_from slots sound place in
      by e.0 e.1 e.2 e.3 (cases_lt end (place + length slots))
    where
      by : (e : ℕ) → place ≤ e → e < place + length slots → ring (length slots) slots e ≡ None
          → (end < place + length slots) ⊎ (place + length slots ≤ end) → end < place + length slots
      by e above near none (inl less) = less
      by e above near none (inr le) = absurd (taken e above (omega (arith, near, le)) none)

  pub end_found : (at : ℕ) (name : Option ℕ) → at ≡ end % length slots
      → name ≡ option_map (λ (row : ℕ × Entry). row.0) (get_or slots at None) → false ≡ is_some name → IsEnd (length slots) slots place end
  end_found at name here read none = record { low = low; near = end_near; taken = taken; bare = by (ring (length slots) slots end) refl }
    where
      by : (o : Option (ℕ × Entry)) → ring (length slots) slots end ≡ o → ring (length slots) slots end ≡ None
      by None is = is
      by (Some row) is =
          let there = read ∙ ap (λ i. option_map (λ (r : ℕ × Entry). r.0) (get_or slots i None)) here ∙ ap (option_map (λ (r : ℕ × Entry). r.0)) is in
          absurd (cc (none, there))

  pub end_more : (at next : ℕ) (name : Option ℕ) → at ≡ end % length slots
      → name ≡ option_map (λ (row : ℕ × Entry). row.0) (get_or slots at None) → true ≡ is_some name
      → IsBeyond (length slots) slots (end + 1) next
      → (place ≤ next) × ((i : ℕ) → place ≤ i → i < next → ring (length slots) slots i ≡ None → ⊥)
  end_more at next name here read full beyond = (omega (arith, low, beyond.passed.low), λ i above below none. by i above below none (cases_lt i end) (cases_lt end i))
    where
      by : (i : ℕ) → place ≤ i → i < next → ring (length slots) slots i ≡ None → (i < end) ⊎ (end ≤ i) → (end < i) ⊎ (i ≤ end) → ⊥
      by i above below none (inl before) side = taken i above before none
      by i above below none (inr ge) (inl behind) =
          let is = beyond.passed.passed i (omega (arith, behind)) below in not_bare (length slots) slots is.way i i is.has none refl
      by i above below none (inr ge) (inr le) =
          let same : i ≡ end = omega (arith, ge, le) in
          let bare = ap (λ j. ring (length slots) slots j) (sym same) ∙ none in
          let there = read ∙ ap (λ j. option_map (λ (r : ℕ × Entry). r.0) (get_or slots j None)) here ∙ ap (option_map (λ (r : ℕ × Entry). r.0)) bare in
          cc (full, there)

-- the last row that stands behind its home
module _ (slots : List (Option (ℕ × Entry))) (sound : AreSound slots) (hole next : ℕ) (full : ring (length slots) slots hole ≡ None → ⊥) (low : hole < next)
    (passed : (i : ℕ) → hole < i → i < next → (v : ℕ) × HasWay (length slots) slots i (v + 1)) where
  pub next_end : (e : ℕ) × (next ≤ e) × (e < hole + length slots) × (ring (length slots) slots e ≡ None)
  next_end =
      let e = spare_from slots sound hole in
      by e.0 e.1 e.2 e.3 (cases_lt hole e.0) (cases_lt e.0 next)
    where
      by : (e : ℕ) → hole ≤ e → e < hole + length slots → ring (length slots) slots e ≡ None → (hole < e) ⊎ (e ≤ hole) → (e < next) ⊎ (next ≤ e)
          → (e : ℕ) × (next ≤ e) × (e < hole + length slots) × (ring (length slots) slots e ≡ None)
      by e above near none (inl behind) (inl before) =
          let has = passed e behind before in absurd (not_bare (length slots) slots (has.0 + 1) e e has.1 none refl)
      by e above near none (inl behind) (inr ge) = (e, ge, near, none)
      by e above near none (inr le) side =
          let same : hole ≡ e = omega (arith, above, le) in absurd (full (ap (λ j. ring (length slots) slots j) same ∙ none))

  pub next_near : next < hole + length slots
  next_near = omega (arith, next_end.1, next_end.2)

  pub next_more : (on : ℕ) → IsBefore (length slots) slots next next → IsBeyond (length slots) slots next on
      → (next < on) × ((hole < on) × ((i : ℕ) → hole < i → i < on → (v : ℕ) × HasWay (length slots) slots i (v + 1)))
  next_more on is beyond = (further, (omega (arith, low, further), λ i above below. by i above below (cases_lt i next)))
    where
      further : next < on
      further = further_by (cases_lt next on)
        where
          further_by : (next < on) ⊎ (on ≤ next) → next < on
          further_by (inl less) = less
          further_by (inr le) =
              let same : next ≡ on = omega (arith, le, beyond.passed.low) in
              absurd (beyond.stops (subst (λ p. IsBefore (length slots) slots next p) same is))

      by : (i : ℕ) → hole < i → i < on → (i < next) ⊎ (next ≤ i) → (v : ℕ) × HasWay (length slots) slots i (v + 1)
      by i above below (inl before) = passed i above before
      by i above below (inr ge) =
          let before = beyond.passed.passed i ge below in
          let back : before.way ≡ before.way - 1 + 1 = omega (arith, before.before, ge) in
          (before.way - 1, subst (HasWay (length slots) slots i) back before.has)

  pub last_found : (IsBefore (length slots) slots next next → ⊥) → IsLastRow (length slots) slots hole (next - 1)
  last_found stops =
      record {
        low = omega (arith, low);
        passed = λ i above le. passed i above (omega (arith, le, low));
        stops = λ v has. home v (subst (λ p. HasWay (length slots) slots p v) back has) (cases_lt 0 v);
        end = (next_end.0, omega (arith, next_end.1, low), next_end.2, next_end.3);
      }
    where
      back : next - 1 + 1 ≡ next
      back = omega (arith, low)

      home : (v : ℕ) → HasWay (length slots) slots next v → (0 < v) ⊎ (v ≤ 0) → v ≡ 0
      home v has (inl above) = absurd (stops (record { way = v; has = has; before = omega (arith, above) }))
      home v has (inr none) = omega (arith, none)

-- A row that was put in.
module _ (old mid : List (Option (ℕ × Entry))) (name place end at : ℕ) (e : Entry) (sound : AreSound old) (last : IsEnd (length old) old place end)
    (raised : AreRaised (length old) old mid place end) (here : at ≡ place % length old) where
  abbrev put : List (Option (ℕ × Entry))
  put = slice_set mid at (Some (name, e))

  same : length put ≡ length old
  same = length-set mid at (Some (name, e)) ∙ raised.same.size

  inside : at < length mid
  inside = let less : place % length old < length old = mod-lt place (some old sound) in omega (arith, here, less, raised.same.size)

  now : ring (length old) put place ≡ Some (name, e)
  now = ap (λ j. get_or put j None) (sym here) ∙ get_or-set_same mid at (Some (name, e)) None inside

  apart_from : (i : ℕ) → place < i → i < place + length old → ring (length old) put i ≡ ring (length old) mid i
  apart_from i low near =
      get_or-set_other mid at (i % length old) (Some (name, e)) None (λ equal. two_slots (length old) place i low near (sym (equal ∙ here)))

  up : (i : ℕ) → place ≤ i → i < end → ring (length old) put (i + 1) ≡ ring (length old) old i
  up i low less = apart_from (i + 1) (omega (arith, low)) (omega (arith, less, last.near)) ∙ raised.up i low less

  other : (i : ℕ) → end < i → i < place + length old → ring (length old) put i ≡ ring (length old) old i
  other i low less = apart_from i (omega (arith, low, last.low)) less ∙ raised.other i low less

  pub put_now : (new : List (Option (ℕ × Entry))) → WouldStandAt old name place → new ≡ put → AreNow old new (insert (map_of_slots old) name e)
  put_now new gap is =
      subst (λ ss. AreNow old ss (insert (map_of_slots old) name e)) (sym is) (record {
        size = same;
        apart = apart_put mid name at e own raised.same.apart;
        order = subst (λ n. AreInOrder n put) (sym same) (order_put old put name place end e sound gap last now up other);
        map =
            map_put mid name at e own raised.same.apart
            ∙ ap (λ (m : FinMap nat_cmp Entry). insert m name e) (same_rows old mid sound.apart raised.same.apart raised.same.kept raised.same.back);
      })
    where
      own : IsOwn mid name at
      own =
          record {
            inside = inside;
            mine = λ q y there. let none : get_or mid at None ≡ None = ap (λ j. get_or mid j None) here ∙ raised.bare in absurd (cc (none, there));
            only = λ i y there. let was = raised.same.back name y i there in absurd (gap.absent was.0 y was.1);
          }

  -- and all those that it was put among
  pub full_put : (new : List (Option (ℕ × Entry))) → new ≡ put → HaveRows new (record { from = place; end = end + 1 })
  full_put new is = subst (λ ss. HaveRows ss (record { from = place; end = end + 1 })) (sym is) full
    where
      at_old : (i : ℕ) → ring (length put) put i ≡ None → ring (length old) put i ≡ None
      at_old i none = ap (λ n. ring n put i) (sym same) ∙ none

      by : (i : ℕ) → place ≤ i → i < end + 1 → ring (length old) put i ≡ None → (place < i) ⊎ (i ≤ place) → ⊥
      by i low less none (inl above) =
          let back : i - 1 + 1 ≡ i = omega (arith, above) in
          last.taken (i - 1) (omega (arith, above)) (omega (arith, above, less))
          (sym (up (i - 1) (omega (arith, above)) (omega (arith, above, less))) ∙ ap (ring (length old) put) back ∙ none)
      by i low less none (inr le) =
          let equal : place ≡ i = omega (arith, low, le) in
          let there = sym now ∙ ap (ring (length old) put) equal ∙ none in cc

      full : HaveRows put (record { from = place; end = end + 1 })
      full i low less none = by i low less (at_old i none) (cases_lt place i)

-- places that have rows, where another row is put over one
pub full_over : (slots new : List (Option (ℕ × Entry))) (full : Full) (at : ℕ) (row : ℕ × Entry) → at < length slots → HaveRows slots full
    → new ≡ slice_set slots at (Some row) → HaveRows new full
full_over slots new full at row inside are is = subst (λ ss. HaveRows ss full) (sym is) by_place
  where
    put : List (Option (ℕ × Entry))
    put = slice_set slots at (Some row)

    by : (i : ℕ) → full.from ≤ i → i < full.end → ring (length slots) put i ≡ None → (i % length slots ≡ at) ⊎ (i % length slots ≡ at → ⊥) → ⊥
    by i low less none (inl equal) =
        let there = sym (get_or-set_same slots at (Some row) None inside) ∙ ap (λ j. get_or put j None) (sym equal) ∙ none in cc
    by i low less none (inr differ) =
        are i low less (sym (get_or-set_other slots at (i % length slots) (Some row) None differ) ∙ none)

    by_place : HaveRows put full
    by_place i low less none =
        by i low less (ap (λ n. ring n put i) (sym (length-set slots at (Some row))) ∙ none) (cases_eq (i % length slots) at)

-- A row that was taken out.
pub take_now : (old cleared new : List (Option (ℕ × Entry))) (name at hole last : ℕ) → AreSound old → StandsAt old name at → hole ≡ length old + at
    → IsLastRow (length old) old hole last → cleared ≡ slice_set old at None → AreLowered (length cleared) cleared new hole last
    → AreNow old new (remove (map_of_slots old) name)
take_now old cleared new name at hole last sound there start is_last is lowered =
    now (subst (λ ss. AreLowered (length old) ss new hole last) is (subst (λ n. AreLowered n cleared new hole last) same lowered))
  where
    without : List (Option (ℕ × Entry))
    without = slice_set old at None

    same : length cleared ≡ length old
    same = ap length is ∙ length-set old at None

    slot : hole % length old ≡ at
    slot = ap (λ i. i % length old) start ∙ add-mod_left (length old) at ∙ mod-eq_of_lt there.inside

    own : IsOwn old name at
    own =
        record {
          inside = there.inside;
          mine = λ q y is. sym (same_key name q there.value y (sym there.is ∙ is));
          only = λ i y is. sound.apart name y there.value i at is there.is;
        }

    as_before : (i : ℕ) → hole < i → i < hole + length old → ring (length old) without i ≡ ring (length old) old i
    as_before i low near =
        get_or-set_other old at (i % length old) None None (λ equal. two_slots (length old) hole i low near (slot ∙ sym equal))

    now : AreLowered (length old) without new hole last → AreNow old new (remove (map_of_slots old) name)
    now lowered =
        record {
          size = size;
          apart = lowered.same.apart;
          order =
              subst (λ n. AreInOrder n new) (sym size)
              (order_take old new hole last sound (omega (arith, start)) is_last
              (λ i low less.
              lowered.down i low less ∙ as_before (i + 1) (omega (arith, low)) (omega (arith, less, is_last.end.1, is_last.end.2)))
              (λ i low less. lowered.other i low less ∙ as_before i (omega (arith, low, is_last.low)) less) lowered.bare);
          map =
              same_rows without new (apart_take old at there.inside sound.apart) lowered.same.apart lowered.same.kept lowered.same.back
              ∙ map_take old name at own sound.apart;
        }
      where
        size : length new ≡ length old
        size = lowered.same.size ∙ length-set old at None

-- the place of a slot
slot_of_place : (old : List (Option (ℕ × Entry))) (name at hole : ℕ) → StandsAt old name at → hole ≡ length old + at → hole % length old ≡ at
slot_of_place old name at hole there start = ap (λ i. i % length old) start ∙ add-mod_left (length old) at ∙ mod-eq_of_lt there.inside

pub full_there : (old : List (Option (ℕ × Entry))) (name at hole : ℕ) → StandsAt old name at → hole ≡ length old + at
    → ring (length old) old hole ≡ None → ⊥
full_there old name at hole there start none =
    let full = ap (λ j. get_or old j None) (slot_of_place old name at hole there start) ∙ there.is in cc (full, none)

pub bare_there : (old cleared : List (Option (ℕ × Entry))) (name at hole : ℕ) → StandsAt old name at → hole ≡ length old + at
    → cleared ≡ slice_set old at None → ring (length cleared) cleared hole ≡ None
bare_there old cleared name at hole there start is =
    let same : length cleared ≡ length old = ap length is ∙ length-set old at None in
    ap (λ n. get_or cleared (hole % n) None) same
    ∙ ap (λ j. get_or cleared j None) (slot_of_place old name at hole there start)
    ∙ ap (λ (ss : List (Option (ℕ × Entry))). get_or ss at None) is
    ∙ get_or-set_same old at None None there.inside
