use Rattle.std.proofs.Common.{◌≡◌, ℕ, ◌+◌, ◌-◌, ◌%◌, ◌<◌, ◌≤◌, inl, inr, List, length, get_or, Option, None, subst, sym, ap, ap₂, ◌∙◌, arith}
use Rattle.std.specs.Prelude.{◌⊎◌}
use Rattle.std.proofs.Math.Nat.{add-mod_right, mod-add-mod, mod-eq_of_lt, mod-lt}
use Rattle.std.proofs.lemmas.Bool.{cases_lt, cases_order}
use Rattle.std.proofs.lemmas.List.{get_or_past}
use Rattle.overlay_address.specs.Names.{IsName}
use Rattle.overlay_mapping_table.specs.declared.entry.Entry.{Entry}
use Rattle.overlay_mapping_table.specs.Rows.{nothing, ring, slot_seen, slots_of, AreSlots, StandOnce}
use Rattle.overlay_mapping_table.specs.Gaps.{ShowNone, AreDown, AreUp}
use Rattle.overlay_mapping_table.specs.Shifts.{AreLowered, AreOneUp, AreRaised}
use Rattle.overlay_mapping_table.proofs.Beside.{none_back, sized, slot_at}
use Rattle.overlay_mapping_table.proofs.Moving.{IsShift, lowered, raised}

-- Rows that move as a block.

-- a slot without a name is empty
bare_slot : (names : List ℕ) (xs : List Entry) (i : ℕ) → length xs ≡ length names → get_or names i 0 ≡ 0 → get_or (slots_of names xs) i None ≡ None
bare_slot names xs i same none = by (cases_lt i (length names))
  where
    by : (i < length names) ⊎ (length names ≤ i) → get_or (slots_of names xs) i None ≡ None
    by (inl inside) = slot_at names xs i nothing same inside ∙ none_back (get_or names i 0) (get_or xs i nothing) none
    by (inr past) = get_or_past (slots_of names xs) i None (omega (arith, past, sized names xs same))

-- Where names and entries move alike, slots do.
module _ (names names₂ : List ℕ) (xs xs₂ : List Entry) (kept : AreSlots names xs) (named : length names₂ ≡ length names) (beside : length xs₂ ≡ length xs) where
  level : length xs₂ ≡ length names₂
  level = omega (arith, named, beside, kept.same)

  size_same : length (slots_of names₂ xs₂) ≡ length (slots_of names xs)
  size_same = omega (arith, sized names₂ xs₂ level, named, kept.size)

  slot_as : (i j : ℕ) → i < length names → j < length names → get_or names₂ i 0 ≡ get_or names j 0 → get_or xs₂ i nothing ≡ get_or xs j nothing
      → get_or (slots_of names₂ xs₂) i None ≡ get_or (slots_of names xs) j None
  slot_as i j inside within name x =
      slot_at names₂ xs₂ i nothing level (omega (arith, inside, named))
      ∙ ap₂ (λ m y. slot_seen m y) name x
      ∙ sym (slot_at names xs j nothing kept.same within)

  slot_stays : (i : ℕ) → get_or names₂ i 0 ≡ get_or names i 0 → get_or xs₂ i nothing ≡ get_or xs i nothing
      → get_or (slots_of names₂ xs₂) i None ≡ get_or (slots_of names xs) i None
  slot_stays i name x = by (cases_lt i (length names))
    where
      by : (i < length names) ⊎ (length names ≤ i) → get_or (slots_of names₂ xs₂) i None ≡ get_or (slots_of names xs) i None
      by (inl inside) = slot_as i i inside inside name x
      by (inr past) =
          get_or_past (slots_of names₂ xs₂) i None (omega (arith, past, sized names₂ xs₂ level, named))
          ∙ sym (get_or_past (slots_of names xs) i None (omega (arith, past, kept.size)))

  -- as slots, where each name is one of before or none
  kept_by : ((i : ℕ) → (get_or names₂ i 0 ≡ 0) ⊎ ((j : ℕ) × (get_or names₂ i 0 ≡ get_or names j 0))) → AreSlots names₂ xs₂
  kept_by was = record { same = level; size = sized names₂ xs₂ level; each = λ i. by i (was i) }
    where
      by : (i : ℕ) → (get_or names₂ i 0 ≡ 0) ⊎ ((j : ℕ) × (get_or names₂ i 0 ≡ get_or names j 0)) → (get_or names₂ i 0 ≡ 0) ⊎ IsName (get_or names₂ i 0)
      by i (inl none) = inl none
      by i (inr from) = subst (λ m. (m ≡ 0) ⊎ IsName m) (sym from.1) (kept.each from.0)

  module _ (from end room : ℕ) (up : AreUp names names₂ 0 from end room) (bare : get_or names₂ from 0 ≡ 0) (up₂ : AreUp xs xs₂ nothing from end room) where
    pub kept_up : AreSlots names₂ xs₂
    kept_up = kept_by (λ i. by i (cases_order i from) (cases_lt end i))
      where
        by : (i : ℕ) → (i ≡ from) ⊎ ((i < from) ⊎ (from < i)) → (end < i) ⊎ (i ≤ end)
            → (get_or names₂ i 0 ≡ 0) ⊎ ((j : ℕ) × (get_or names₂ i 0 ≡ get_or names j 0))
        by i (inl same) side = inl (ap (λ j. get_or names₂ j 0) same ∙ bare)
        by i (inr (inl less)) side = inr (i, up.below i 0 less)
        by i (inr (inr more)) (inl past) = above (up.above i 0 past)
          where
            above : (get_or names₂ i 0 ≡ get_or names i 0) ⊎ ((i < end + room) × (get_or names₂ i 0 ≡ 0))
                → (get_or names₂ i 0 ≡ 0) ⊎ ((j : ℕ) × (get_or names₂ i 0 ≡ get_or names j 0))
            above (inl stays) = inr (i, stays)
            above (inr (near, none)) = inl none
        by i (inr (inr more)) (inr le) =
            let next : i - 1 + 1 ≡ i = omega (arith, more) in
            inr (i - 1, ap (λ j. get_or names₂ j 0) (sym next) ∙ up.up (i - 1) 0 (omega (arith, more)) (omega (arith, le, more)))

    pub bare_up_slot : get_or (slots_of names₂ xs₂) from None ≡ None
    bare_up_slot = bare_slot names₂ xs₂ from level bare

    pub rows_up : (slots : List (Option (ℕ × Entry))) → slots_of names xs ≡ slots → ShowNone names end room → end < length names
        → AreOneUp slots (slots_of names₂ xs₂) from end
    rows_up slots stands free inside =
        subst (λ ss. AreOneUp ss (slots_of names₂ xs₂) from end) stands (
        record {
          size = size_same;
          up = λ i low less. slot_as (i + 1) i (omega (arith, less, inside)) (omega (arith, less, inside)) (up.up i 0 low less) (up₂.up i nothing low less);
          below = λ i less. slot_stays i (up.below i 0 less) (up₂.below i nothing less);
          above = λ i past. above i past (up.above i 0 past) (up₂.above i nothing past);
        }
        )
      where
        none : (i : ℕ) → get_or names₂ i 0 ≡ 0 → get_or names i 0 ≡ 0 → get_or (slots_of names₂ xs₂) i None ≡ get_or (slots_of names xs) i None
        none i new old = bare_slot names₂ xs₂ i level new ∙ sym (bare_slot names xs i kept.same old)

        above : (i : ℕ) → end < i → (get_or names₂ i 0 ≡ get_or names i 0) ⊎ ((i < end + room) × (get_or names₂ i 0 ≡ 0))
            → (get_or xs₂ i nothing ≡ get_or xs i nothing) ⊎ ((i < end + room) × (get_or xs₂ i nothing ≡ nothing))
            → get_or (slots_of names₂ xs₂) i None ≡ get_or (slots_of names xs) i None
        above i past (inl stays) (inl stays₂) = slot_stays i stays stays₂
        above i past (inl stays) (inr (near, rest)) = none i (stays ∙ free i past near) (free i past near)
        above i past (inr (near, rest)) beside = none i rest (free i past near)

  module _ (to last : ℕ) (down : AreDown names names₂ 0 to last) (down₂ : AreDown xs xs₂ nothing to last) where
    pub kept_down : AreSlots names₂ xs₂
    kept_down = kept_by (λ i. by i (cases_order i last) (cases_lt i to))
      where
        by : (i : ℕ) → (i ≡ last) ⊎ ((i < last) ⊎ (last < i)) → (i < to) ⊎ (to ≤ i)
            → (get_or names₂ i 0 ≡ 0) ⊎ ((j : ℕ) × (get_or names₂ i 0 ≡ get_or names j 0))
        by i (inl same) side = inl (ap (λ j. get_or names₂ j 0) same ∙ down.here 0)
        by i (inr (inl less)) (inl before) = inr (i, down.below i 0 before)
        by i (inr (inl less)) (inr ge) = inr (i + 1, down.down i 0 ge less)
        by i (inr (inr more)) side = inr (i, down.above i 0 more)

    pub bare_down_slot : get_or (slots_of names₂ xs₂) last None ≡ None
    bare_down_slot = bare_slot names₂ xs₂ last level (down.here 0)

    pub rows_down : (slots : List (Option (ℕ × Entry))) → slots_of names xs ≡ slots → last < length names → AreOneUp (slots_of names₂ xs₂) slots to last
    rows_down slots stands inside =
        subst (λ ss. AreOneUp (slots_of names₂ xs₂) ss to last) stands (
        record {
          size = sym size_same;
          up = λ i low less.
              sym (slot_as i (i + 1) (omega (arith, less, inside)) (omega (arith, less, inside)) (down.down i 0 low less) (down₂.down i nothing low less));
          below = λ i less. sym (slot_stays i (down.below i 0 less) (down₂.below i nothing less));
          above = λ i past. sym (slot_stays i (down.above i 0 past) (down₂.above i nothing past));
        }
        )

-- The slots of places from one on, up to the last slot and from slot 0 on.
near_slot : (n start from i : ℕ) → from ≡ start % n → start ≤ i → from + (i - start) < n → i % n ≡ from + (i - start)
near_slot n start from i is le less =
    let sum : start + (i - start) ≡ i = omega (arith, le) in
    sym (ap (λ j. j % n) sum)
    ∙ sym (mod-add-mod start n (i - start))
    ∙ ap (λ j. (j + (i - start)) % n) (sym is)
    ∙ mod-eq_of_lt less

far_slot : (n start from i : ℕ) → from ≡ start % n → start ≤ i → i < start + n → n ≤ from + (i - start) → i % n ≡ from + (i - start) - n
far_slot n start from i is le near past =
    let sum : start + (i - start) ≡ i = omega (arith, le) in
    let split : (from + (i - start) - n) + n ≡ from + (i - start) = omega (arith, past) in
    let small : start % n < n = mod-lt start (omega (arith, le, near)) in
    sym (ap (λ j. j % n) sum)
    ∙ sym (mod-add-mod start n (i - start))
    ∙ ap (λ j. (j + (i - start)) % n) (sym is)
    ∙ sym (ap (λ j. j % n) split)
    ∙ add-mod_right (from + (i - start) - n) n
    ∙ mod-eq_of_lt (omega (arith, small, near, le, is))

module _ (n : ℕ) (lower upper : List (Option (ℕ × Entry))) (start end from : ℕ) (size : length lower ≡ n) (is : from ≡ start % n) (order : start ≤ end)
    (whole : from + (end - start) < n) (rows : AreOneUp lower upper from (from + (end - start))) where
  as_shift : ring n lower end ≡ None → ring n upper start ≡ None → IsShift n lower upper start end
  as_shift last first =
      record {
        size = size;
        level = rows.size;
        order = order;
        near = omega (arith, whole, order);
        up = λ i low less.
            let next : from + (i + 1 - start) ≡ from + (i - start) + 1 = omega (arith, low) in
            ap (λ j. get_or upper j None) (near_slot n start from (i + 1) is (omega (arith, low)) (omega (arith, low, less, whole)) ∙ next)
            ∙ rows.up (from + (i - start)) (omega arith) (omega (arith, low, less))
            ∙ ap (λ j. get_or lower j None) (sym (near_slot n start from i is low (omega (arith, low, less, whole))));
        other = λ i past near. by i past near (cases_lt (from + (i - start)) n);
        last = last;
        first = first;
      }
    where
      by : (i : ℕ) → end < i → i < start + n → (from + (i - start) < n) ⊎ (n ≤ from + (i - start)) → ring n upper i ≡ ring n lower i
      by i past near (inl less) =
          let at = near_slot n start from i is (omega (arith, past, order)) less in
          rows.above (i % n) (omega (arith, at, past, order))
      by i past near (inr more) =
          let at = far_slot n start from i is (omega (arith, past, order)) near more in
          rows.below (i % n) (omega (arith, at, past, near, order))

  pub raised_block : StandOnce lower → ring n lower end ≡ None → get_or upper from None ≡ None → AreRaised n lower upper start end
  raised_block apart last first = raised n lower upper start end apart (as_shift last (ap (λ j. get_or upper j None) (sym is) ∙ first))

  pub lowered_block : StandOnce upper → ring n upper start ≡ None → get_or lower (from + (end - start)) None ≡ None → AreLowered n upper lower start end
  lowered_block apart first last =
      lowered n upper lower start end apart (as_shift (ap (λ j. get_or lower j None) (near_slot n start from end is order whole) ∙ last) first)
