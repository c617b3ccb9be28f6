use Rattle.std.proofs.Common.{◌≡◌, ℕ, ◌+◌, ◌-◌, ◌%◌, ◌<◌, ◌≤◌, inl, inr, List, length, get_or, slice_set, Option, Some, None, subst, sym, ap, refl, ◌∙◌, arith}
use Rattle.std.specs.Prelude.{◌⊎◌}
use Rattle.std.proofs.Math.Nat.{add-mod_right, mod-eq_of_lt, mod-lt}
use Rattle.std.proofs.lemmas.Bool.{cases_lt}
use Rattle.std.proofs.lemmas.List.{get_or-set_same, get_or-set_other, length-set}
use Rattle.overlay_mapping_table.specs.declared.entry.Entry.{Entry}
use Rattle.overlay_mapping_table.specs.Rows.{ring, StandOnce}
use Rattle.overlay_mapping_table.specs.Shifts.{AreLowered, AreRaised, HaveSameRows}
use Rattle.overlay_mapping_table.proofs.Ways.{Placed, placed, same_near}
use Rattle.overlay_mapping_table.proofs.Searching.{within}

-- Rows that move into empty slots.

-- What one place had stands in another one, and the first is empty.
record IsMoved (n : ℕ) (slots new : List (Option (ℕ × Entry))) (to from : ℕ) : Type 0 where
  size : length new ≡ n
  here : (i : ℕ) → i % n ≡ to % n → ring n new i ≡ ring n slots from
  gone : (i : ℕ) → i % n ≡ from % n → ring n new i ≡ None
  other : (i : ℕ) → (i % n ≡ to % n → ⊥) → (i % n ≡ from % n → ⊥) → ring n new i ≡ ring n slots i

-- that is what two writes do
moved_by : (n to from : ℕ) (slots : List (Option (ℕ × Entry))) → length slots ≡ n → 0 < n → (to % n ≡ from % n → ⊥)
    → IsMoved n slots (slice_set (slice_set slots (to % n) (ring n slots from)) (from % n) None) to from
moved_by n to from slots size some differ =
    record {
      size = length-set (slice_set slots (to % n) (ring n slots from)) (from % n) None ∙ length-set slots (to % n) (ring n slots from) ∙ size;
      here = λ i same.
          ap (λ j. get_or new j None) same
          ∙ get_or-set_other (slice_set slots (to % n) (ring n slots from)) (from % n) (to % n) None None differ
          ∙ get_or-set_same slots (to % n) (ring n slots from) None (omega (arith, low, size));
      gone = λ i same.
          ap (λ j. get_or new j None) same
          ∙ get_or-set_same (slice_set slots (to % n) (ring n slots from)) (from % n) None None (omega (arith, high, size, length-set slots (to % n) (ring n slots from)));
      other = λ i one two.
          get_or-set_other (slice_set slots (to % n) (ring n slots from)) (from % n) (i % n) None None two
          ∙ get_or-set_other slots (to % n) (i % n) (ring n slots from) None one;
    }
  where
    new : List (Option (ℕ × Entry))
    new = slice_set (slice_set slots (to % n) (ring n slots from)) (from % n) None

    low : to % n < n
    low = mod-lt to some

    high : from % n < n
    high = mod-lt from some

-- two places of one round are two slots
pub two_slots : (n a b : ℕ) → a < b → b < a + n → a % n ≡ b % n → ⊥
two_slots n a b less near same = let equal = same_near n a b same (omega (arith, less)) near in omega (arith, equal, less)

-- Slots of which some are those of others, one place further on.
pub record IsShift (n : ℕ) (lower upper : List (Option (ℕ × Entry))) (start end : ℕ) : Type 0 where
  pub size : length lower ≡ n
  pub level : length upper ≡ length lower
  pub order : start ≤ end
  pub near : end < start + n
  pub up : (i : ℕ) → start ≤ i → i < end → ring n upper (i + 1) ≡ ring n lower i
  pub other : (i : ℕ) → end < i → i < start + n → ring n upper i ≡ ring n lower i
  pub last : ring n lower end ≡ None
  pub first : ring n upper start ≡ None

-- two places in one round that are one slot
same_round : (n start a b : ℕ) → start ≤ a → a < start + n → start ≤ b → b < start + n → a % n ≡ b % n → a ≡ b
same_round n start a b low less above near same = by (cases_lt a b)
  where
    by : (a < b) ⊎ (b ≤ a) → a ≡ b
    by (inl before) = same_near n a b same (omega (arith, before)) (omega (arith, low, near))
    by (inr behind) = sym (same_near n b a (sym same) behind (omega (arith, above, less)))

module _ (n : ℕ) (lower upper : List (Option (ℕ × Entry))) (start end : ℕ) (shift : IsShift n lower upper start end) where
  -- a place goes up by one before the last one, and stays behind it
  abbrev IsStep : ℕ → ℕ → Type 0
  IsStep p q = ((p < end) × (q ≡ p + 1)) ⊎ ((end < p) × (q ≡ p))

  -- a slot whose row stands in another one then
  record Goes (i j : ℕ) : Type 0 where
    p : ℕ
    q : ℕ
    here : p % n ≡ i
    there : q % n ≡ j
    low : start ≤ p
    high : p < start + n
    step : IsStep p q

  ahead : (p q r s : ℕ) → IsStep p q → IsStep r s → p ≡ r → q ≡ s
  ahead p q r s (inl one) (inl two) same = omega (arith, one.1, two.1, same)
  ahead p q r s (inl one) (inr two) same = absurd (omega (arith, one.0, two.0, same))
  ahead p q r s (inr one) (inl two) same = absurd (omega (arith, one.0, two.0, same))
  ahead p q r s (inr one) (inr two) same = omega (arith, one.1, two.1, same)

  back : (p q r s : ℕ) → IsStep p q → IsStep r s → q ≡ s → p ≡ r
  back p q r s (inl one) (inl two) same = omega (arith, one.1, two.1, same)
  back p q r s (inl one) (inr two) same = absurd (omega (arith, one.0, one.1, two.0, two.1, same))
  back p q r s (inr one) (inl two) same = absurd (omega (arith, one.0, one.1, two.0, two.1, same))
  back p q r s (inr one) (inr two) same = omega (arith, one.1, two.1, same)

  inside : (p q : ℕ) → start ≤ p → p < start + n → IsStep p q → (start ≤ q) × (q < start + n)
  inside p q low high (inl one) = (omega (arith, low, one.1), omega (arith, one.0, one.1, shift.near))
  inside p q low high (inr two) = (omega (arith, low, two.1), omega (arith, high, two.1))

  one_way : (i j k l : ℕ) → Goes i j → Goes k l → i ≡ k → j ≡ l
  one_way i j k l a b same =
      let place = same_round n start a.p b.p a.low a.high b.low b.high (a.here ∙ same ∙ sym b.here) in
      sym a.there ∙ ap (λ q. q % n) (ahead a.p a.q b.p b.q a.step b.step place) ∙ b.there

  other_way : (i j k l : ℕ) → Goes i j → Goes k l → j ≡ l → i ≡ k
  other_way i j k l a b same =
      let one = inside a.p a.q a.low a.high a.step in
      let two = inside b.p b.q b.low b.high b.step in
      let place = same_round n start a.q b.q one.0 one.1 two.0 two.1 (a.there ∙ same ∙ sym b.there) in
      sym a.here ∙ ap (λ p. p % n) (back a.p a.q b.p b.q a.step b.step place) ∙ b.here

  -- where a row goes, and where it comes from
  goes : (i : ℕ) (r : ℕ × Entry) → get_or lower i None ≡ Some r → (j : ℕ) × Goes i j × (get_or upper j None ≡ Some r)
  goes i r is = by (cases_lt at.place end) (cases_lt end at.place)
    where
      within_n : i < n
      within_n = omega (arith, within lower i r is, shift.size)

      at : Placed n start i
      at = placed n start i (omega (arith, within_n))

      here : at.place % n ≡ i
      here = at.same ∙ mod-eq_of_lt within_n

      row : ring n lower at.place ≡ Some r
      row = ap (λ k. get_or lower k None) here ∙ is

      by : (at.place < end) ⊎ (end ≤ at.place) → (end < at.place) ⊎ (at.place ≤ end) → (j : ℕ) × Goes i j × (get_or upper j None ≡ Some r)
      by (inl before) behind = (
        (at.place + 1) % n,
        record { p = at.place; q = at.place + 1; here = here; there = refl; low = at.low; high = at.near; step = inl (before, refl) },
        shift.up at.place at.low before ∙ row,
      )
      by (inr past) (inl behind) = (
        at.place % n,
        record { p = at.place; q = at.place; here = here; there = refl; low = at.low; high = at.near; step = inr (behind, refl) },
        shift.other at.place behind at.near ∙ row,
      )
      by (inr past) (inr le) =
          let same : at.place ≡ end = omega (arith, past, le) in
          let none = ap (λ k. ring n lower k) same ∙ shift.last in
          absurd (cc (none, row))

  comes : (j : ℕ) (r : ℕ × Entry) → get_or upper j None ≡ Some r → (i : ℕ) × Goes i j × (get_or lower i None ≡ Some r)
  comes j r is = by (cases_lt start at.place) (cases_lt end at.place)
    where
      within_n : j < n
      within_n = omega (arith, within upper j r is, shift.size, shift.level)

      at : Placed n start j
      at = placed n start j (omega (arith, within_n))

      there : at.place % n ≡ j
      there = at.same ∙ mod-eq_of_lt within_n

      row : ring n upper at.place ≡ Some r
      row = ap (λ k. get_or upper k None) there ∙ is

      by : (start < at.place) ⊎ (at.place ≤ start) → (end < at.place) ⊎ (at.place ≤ end) → (i : ℕ) × Goes i j × (get_or lower i None ≡ Some r)
      by later (inl behind) = (
        at.place % n,
        record { p = at.place; q = at.place; here = refl; there = there; low = at.low; high = at.near; step = inr (behind, refl) },
        sym (shift.other at.place behind at.near) ∙ row,
      )
      by (inl later) (inr le) =
          let next : at.place - 1 + 1 ≡ at.place = omega (arith, later) in
          let before : at.place - 1 < end = omega (arith, later, le) in
          let low : start ≤ at.place - 1 = omega (arith, later) in (
            (at.place - 1) % n,
            record {
              p = at.place - 1;
              q = at.place;
              here = refl;
              there = there;
              low = low;
              high = omega (arith, at.near);
              step = inl (before, sym next);
            },
            sym (shift.up (at.place - 1) low before) ∙ ap (λ k. ring n upper k) next ∙ row,
          )
      by (inr le) past =
          let same : at.place ≡ start = omega (arith, le, at.low) in
          let none = ap (λ k. ring n upper k) same ∙ shift.first in
          absurd (cc (none, row))

  pub same_up : StandOnce lower → HaveSameRows lower upper
  same_up apart =
      record {
        size = shift.level;
        apart = λ name x y i j one two.
            let a = comes i (name, x) one in
            let b = comes j (name, y) two in
            one_way a.0 i b.0 j a.1 b.1 (apart name x y a.0 b.0 a.2 b.2);
        kept = λ name x i there. let a = goes i (name, x) there in (a.0, a.2);
        back = λ name x j there. let a = comes j (name, x) there in (a.0, a.2);
      }

  pub same_down : StandOnce upper → HaveSameRows upper lower
  same_down apart =
      record {
        size = sym shift.level;
        apart = λ name x y i j one two.
            let a = goes i (name, x) one in
            let b = goes j (name, y) two in
            other_way i a.0 j b.0 a.1 b.1 (apart name x y a.0 b.0 a.2 b.2);
        kept = λ name x i there. let a = comes i (name, x) there in (a.0, a.2);
        back = λ name x j there. let a = goes j (name, x) there in (a.0, a.2);
      }

-- Rows that move in two steps.
joined : (n : ℕ) (a b c : List (Option (ℕ × Entry))) (start mid end : ℕ) → IsShift n a b mid end → IsShift n b c start mid → end < start + n
    → IsShift n a c start end
joined n a b c start mid end above below near =
    record {
      size = above.size;
      level = below.level ∙ above.level;
      order = omega (arith, above.order, below.order);
      near = near;
      up = λ i low less. up i low less (cases_lt i mid) (cases_lt mid i);
      other = λ i past less. below.other i (omega (arith, past, above.order)) less ∙ above.other i past (omega (arith, less, below.order));
      last = above.last;
      first = below.first;
    }
  where
    up : (i : ℕ) → start ≤ i → i < end → (i < mid) ⊎ (mid ≤ i) → (mid < i) ⊎ (i ≤ mid) → ring n c (i + 1) ≡ ring n a i
    up i low less (inl before) behind =
        let round : (i + n) % n ≡ i % n = add-mod_right i n in
        below.up i low before
        ∙ ap (λ j. get_or b j None) (sym round)
        ∙ above.other (i + n) (omega (arith, low, near)) (omega (arith, before))
        ∙ ap (λ j. get_or a j None) round
    up i low less (inr ge) behind = below.other (i + 1) (omega (arith, ge)) (omega (arith, less, near)) ∙ above.up i ge less

-- one row goes up, or down
step_up : (n : ℕ) (slots : List (Option (ℕ × Entry))) (p : ℕ) → length slots ≡ n → p + 1 < p + n → ring n slots (p + 1) ≡ None
    → IsShift n slots (slice_set (slice_set slots ((p + 1) % n) (ring n slots p)) (p % n) None) p (p + 1)
step_up n slots p size near bare =
    let differ : (p + 1) % n ≡ p % n → ⊥ = λ same. two_slots n p (p + 1) (omega arith) near (sym same) in
    let moved = moved_by n (p + 1) p slots size (omega (arith, near)) differ in
    record {
      size = size;
      level = moved.size ∙ sym size;
      order = omega arith;
      near = near;
      up = λ i low less. let here : p ≡ i = omega (arith, low, less) in subst (λ j. ring n new (j + 1) ≡ ring n slots j) here (moved.here (p + 1) refl);
      other = λ i past less.
          moved.other i (λ same. two_slots n (p + 1) i past (omega (arith, less)) (sym same))
          (λ same. two_slots n p i (omega (arith, past)) less (sym same));
      last = bare;
      first = moved.gone p refl;
    }
  where
    new : List (Option (ℕ × Entry))
    new = slice_set (slice_set slots ((p + 1) % n) (ring n slots p)) (p % n) None

step_down : (n : ℕ) (slots : List (Option (ℕ × Entry))) (p : ℕ) → length slots ≡ n → p + 1 < p + n → ring n slots p ≡ None
    → IsShift n (slice_set (slice_set slots (p % n) (ring n slots (p + 1))) ((p + 1) % n) None) slots p (p + 1)
step_down n slots p size near bare =
    let moved = moved_by n p (p + 1) slots size (omega (arith, near)) (two_slots n p (p + 1) (omega arith) near) in
    record {
      size = moved.size;
      level = size ∙ sym moved.size;
      order = omega arith;
      near = near;
      up = λ i low less. let here : p ≡ i = omega (arith, low, less) in subst (λ j. ring n slots (j + 1) ≡ ring n new j) here (sym (moved.here p refl));
      other = λ i past less.
          sym (moved.other i (λ same. two_slots n p i (omega (arith, past)) less (sym same))
          (λ same. two_slots n (p + 1) i past (omega (arith, less)) (sym same)));
      last = moved.gone (p + 1) refl;
      first = bare;
    }
  where
    new : List (Option (ℕ × Entry))
    new = slice_set (slice_set slots (p % n) (ring n slots (p + 1))) ((p + 1) % n) None

-- The same steps, by what the code reads and writes.

pub raises : (n : ℕ) (old slots new : List (Option (ℕ × Entry))) (place hole end from to : ℕ) → IsShift n old slots hole end
    → place < hole → end < place + n → from ≡ (hole - 1) % n → to ≡ hole % n
    → new ≡ slice_set (slice_set slots to (get_or slots from None)) from None
    → (place ≤ hole - 1) × IsShift n old new (hole - 1) end
raises n old slots new place hole end from to raised less near at_from at_to is = (
  omega (arith, less),
  subst (λ ss. IsShift n old ss (hole - 1) end) (sym same)
      (joined n old slots after (hole - 1) (hole - 1 + 1) end (subst (λ h. IsShift n old slots h end) (sym back) raised)
      (step_up n slots (hole - 1) (raised.level ∙ raised.size) (omega (arith, raised.order, near, less)) (ap (λ h. ring n slots h) back ∙ raised.first))
      (omega (arith, near, less))),
)
  where
    back : hole - 1 + 1 ≡ hole
    back = omega (arith, less)

    after : List (Option (ℕ × Entry))
    after = slice_set (slice_set slots ((hole - 1 + 1) % n) (ring n slots (hole - 1))) ((hole - 1) % n) None

    same : new ≡ after
    same =
        is
        ∙ ap (λ i. slice_set (slice_set slots i (get_or slots from None)) from None) (at_to ∙ ap (λ h. h % n) (sym back))
        ∙ ap (λ i. slice_set (slice_set slots ((hole - 1 + 1) % n) (get_or slots i None)) i None) at_from

pub lowers : (n : ℕ) (old slots new : List (Option (ℕ × Entry))) (hole gap last from to : ℕ) → IsShift n slots old hole gap
    → gap < last → last + 1 < hole + n → from ≡ (gap + 1) % n → to ≡ gap % n
    → new ≡ slice_set (slice_set slots to (get_or slots from None)) from None
    → (gap + 1 ≤ last) × IsShift n new old hole (gap + 1)
lowers n old slots new hole gap last from to lowered less near at_from at_to is = (
  omega (arith, less),
  subst (λ ss. IsShift n ss old hole (gap + 1)) (sym same)
      (joined n after slots old hole gap (gap + 1) (step_down n slots gap lowered.size (omega (arith, less, near, lowered.order)) lowered.last) lowered
      (omega (arith, less, near))),
)
  where
    after : List (Option (ℕ × Entry))
    after = slice_set (slice_set slots (gap % n) (ring n slots (gap + 1))) ((gap + 1) % n) None

    same : new ≡ after
    same =
        is
        ∙ ap (λ i. slice_set (slice_set slots i (get_or slots from None)) from None) at_to
        ∙ ap (λ i. slice_set (slice_set slots (gap % n) (get_or slots i None)) i None) at_from

-- what that makes of the slots
pub raised : (n : ℕ) (old new : List (Option (ℕ × Entry))) (place end : ℕ) → StandOnce old → IsShift n old new place end → AreRaised n old new place end
raised n old new place end apart shift =
    record { same = same_up n old new place end shift apart; up = shift.up; other = shift.other; bare = shift.first }

pub lowered : (n : ℕ) (old new : List (Option (ℕ × Entry))) (hole last : ℕ) → StandOnce old → IsShift n new old hole last → AreLowered n old new hole last
lowered n old new hole last apart shift =
    record {
      same = same_down n new old hole last shift apart;
      down = λ i low less. sym (shift.up i low less);
      other = λ i past near. sym (shift.other i past near);
      bare = shift.last;
    }
