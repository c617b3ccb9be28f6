use Rattle.std.proofs.Common.{◌≡◌, ℕ, ◌+◌, ◌-◌, ◌<◌, ◌≤◌, inl, inr, true, false, nat_lt, Bool, cond, List, length, get_or, slice_set, sym, ap, ◌∙◌, arith}
use Rattle.std.specs.Prelude.{◌⊎◌}
use Rattle.std.proofs.lemmas.Bool.{cases_eq, cases_lt}
use Rattle.std.proofs.lemmas.Bool.Decides.{nat_tests}
use Rattle.std.proofs.lemmas.List.{get_or_default, get_or-set_same, get_or-set_other, get_or_past, length-set, same_lists}
use Rattle.std.proofs.lemmas.List.FromFn.{length-map-range_with_len, get_or-map-range_with_len}
use Rattle.overlay_mapping_table.specs.declared.gaps.Gap.{Gap}
use Rattle.filled_list.specs.Copied.{AreCopied}
use Rattle.overlay_mapping_table.specs.Gaps.{seen_slots, seen_at, AreDown, AreFilled, AreUp, IsGapIn, IsShifted, IsWrittenAt}

-- What is seen of lists with a gap.

if_so : {X : Type 0} (b : Bool) (x y : X) → b ≡ true → cond b x y ≡ x
if_so b x y is = ap (λ (t : Bool). cond t x y) is

if_not : {X : Type 0} (b : Bool) (x y : X) → b ≡ false → cond b x y ≡ y
if_not b x y is = ap (λ (t : Bool). cond t x y) is

module _ {X : Type 0} (items : List X) (rest : X) (gap : Gap) where
  pub size_seen : length (seen_slots items rest gap) ≡ length items
  unfolding seen_slots
  size_seen = length-map-range_with_len (seen_at items rest gap) 0 (length items)

  one : (i : ℕ) (d : X) → i < length items → get_or (seen_slots items rest gap) i d ≡ seen_at items rest gap i
  unfolding seen_slots
  one i d inside = get_or-map-range_with_len (seen_at items rest gap) 0 (length items) i i d inside (omega arith)

  later : ℕ → X
  later i = cond (nat_lt i gap.end) (get_or items (i + gap.len) rest) (cond (nat_lt i (gap.end + gap.len)) rest (get_or items i rest))

  last_one : ℕ → X
  last_one i = cond (nat_lt i (gap.end + gap.len)) rest (get_or items i rest)

  at_low : (i : ℕ) → i < gap.at → seen_at items rest gap i ≡ get_or items i rest
  unfolding seen_at
  at_low i less = if_so (nat_lt i gap.at) _ _ (grind (arith, nat_tests, less))

  at_high : (i : ℕ) → gap.at ≤ i → seen_at items rest gap i ≡ later i
  unfolding seen_at later
  at_high i ge = if_not (nat_lt i gap.at) _ _ (grind (arith, nat_tests, ge))

  in_stretch : (i : ℕ) → i < gap.end → later i ≡ get_or items (i + gap.len) rest
  unfolding later
  in_stretch i less = if_so (nat_lt i gap.end) _ _ (grind (arith, nat_tests, less))

  past_stretch : (i : ℕ) → gap.end ≤ i → later i ≡ last_one i
  unfolding later last_one
  past_stretch i ge = if_not (nat_lt i gap.end) _ _ (grind (arith, nat_tests, ge))

  in_free : (i : ℕ) → i < gap.end + gap.len → last_one i ≡ rest
  unfolding last_one
  in_free i less = if_so (nat_lt i (gap.end + gap.len)) _ _ (grind (arith, nat_tests, less))

  past_free : (i : ℕ) → gap.end + gap.len ≤ i → last_one i ≡ get_or items i rest
  unfolding last_one
  past_free i ge = if_not (nat_lt i (gap.end + gap.len)) _ _ (grind (arith, nat_tests, ge))

  pub low : (i : ℕ) (d : X) → i < length items → i < gap.at → get_or (seen_slots items rest gap) i d ≡ get_or items i rest
  low i d inside less = one i d inside ∙ at_low i less

  pub moved : (i : ℕ) (d : X) → i < length items → gap.at ≤ i → i < gap.end → get_or (seen_slots items rest gap) i d ≡ get_or items (i + gap.len) rest
  moved i d inside ge less = one i d inside ∙ at_high i ge ∙ in_stretch i less

  pub free : (i : ℕ) (d : X) → i < length items → gap.at ≤ gap.end → gap.end ≤ i → i < gap.end + gap.len → get_or (seen_slots items rest gap) i d ≡ rest
  free i d inside order ge less = one i d inside ∙ at_high i (omega (arith, order, ge)) ∙ past_stretch i ge ∙ in_free i less

  pub high : (i : ℕ) (d : X) → i < length items → gap.at ≤ gap.end → gap.end + gap.len ≤ i → get_or (seen_slots items rest gap) i d ≡ get_or items i rest
  high i d inside order ge = one i d inside ∙ at_high i (omega (arith, order, ge)) ∙ past_stretch i (omega (arith, ge)) ∙ past_free i ge

  -- an element that was read where it is written
  pub read_low : (i : ℕ) (x : X) → x ≡ get_or items i x → i < length items → i < gap.at → x ≡ get_or (seen_slots items rest gap) i x
  read_low i x is inside less = is ∙ get_or_default items i x rest inside ∙ sym (low i x inside less)

  pub read_moved : (i : ℕ) (x : X) → x ≡ get_or items (i + gap.len) x → i < length items → i + gap.len < length items → gap.at ≤ i → i < gap.end
      → x ≡ get_or (seen_slots items rest gap) i x
  read_moved i x is inside within ge less = is ∙ get_or_default items (i + gap.len) x rest within ∙ sym (moved i x inside ge less)

  pub read_high : (i : ℕ) (x : X) → x ≡ get_or items i x → i < length items → gap.at ≤ gap.end → gap.end + gap.len ≤ i → x ≡ get_or (seen_slots items rest gap) i x
  read_high i x is inside order ge = is ∙ get_or_default items i x rest inside ∙ sym (high i x inside order ge)

-- without a gap all is as it is written
pub seen_whole : {X : Type 0} (items : List X) (rest : X) (gap : Gap) → gap.len ≡ 0 → gap.at ≤ gap.end → seen_slots items rest gap ≡ items
seen_whole {X = X} items rest gap none order =
    same_lists (seen_slots items rest gap) items (size_seen items rest gap) (λ k d below.
    by k d (omega (arith, below, size_seen items rest gap)) (cases_lt k gap.at) (cases_lt k gap.end))
  where
    by : (k : ℕ) (d : X) → k < length items → (k < gap.at) ⊎ (gap.at ≤ k) → (k < gap.end) ⊎ (gap.end ≤ k) → get_or (seen_slots items rest gap) k d ≡ get_or items k d
    by k d inside (inl less) side = low items rest gap k d inside less ∙ get_or_default items k rest d inside
    by k d inside (inr ge) (inl less) =
        let same : k + gap.len ≡ k = omega (arith, none) in
        moved items rest gap k d inside ge less ∙ ap (λ j. get_or items j rest) same ∙ get_or_default items k rest d inside
    by k d inside (inr ge) (inr past) = high items rest gap k d inside order (omega (arith, past, none)) ∙ get_or_default items k rest d inside

-- the gap is closed: it was moved behind the stretch, and what lay there was written over
pub closed : {X : Type 0} (old mid new : List X) (rest : X) (gap : Gap) → IsGapIn (length old) gap → IsShifted old mid gap.at gap.end gap.len
    → AreFilled mid new rest gap.end gap.len → new ≡ seen_slots old rest gap
closed {X = X} old mid new rest gap is shifted filled =
    same_lists new (seen_slots old rest gap) (filled.size ∙ shifted.size ∙ sym (size_seen old rest gap)) (λ k d below.
    by k d (omega (arith, below, filled.size, shifted.size)) (cases_lt k gap.at) (cases_lt k gap.end) (cases_lt k (gap.end + gap.len)))
  where
    by : (k : ℕ) (d : X) → k < length old → (k < gap.at) ⊎ (gap.at ≤ k) → (k < gap.end) ⊎ (gap.end ≤ k)
        → (k < gap.end + gap.len) ⊎ (gap.end + gap.len ≤ k) → get_or new k d ≡ get_or (seen_slots old rest gap) k d
    by k d inside (inl less) side far =
        filled.below k d (omega (arith, less, is.order))
        ∙ shifted.below k d less (omega (arith, less, is.order))
        ∙ get_or_default old k d rest inside
        ∙ sym (low old rest gap k d inside less)
    by k d inside (inr ge) (inl less) far =
        filled.below k d less
        ∙ shifted.down k d ge less
        ∙ get_or_default old (k + gap.len) d rest (omega (arith, less, is.inside))
        ∙ sym (moved old rest gap k d inside ge less)
    by k d inside (inr ge) (inr past) (inl less) = filled.inside k d past less ∙ sym (free old rest gap k d inside is.order past less)
    by k d inside (inr ge) (inr past) (inr more) =
        filled.above k d more
        ∙ shifted.above k d (omega (arith, more, is.order)) more
        ∙ get_or_default old k d rest inside
        ∙ sym (high old rest gap k d inside is.order more)

-- Elements that go up by one, at the gap: it was moved to where they begin.
module _ {X : Type 0} (old mid new : List X) (rest : X) (gap : Gap) (from end room : ℕ) (is : IsGapIn (length old) gap) (some : 0 < gap.len)
    (here : gap.end ≡ end) (less : from < end) (shifted : IsShifted old mid gap.at from gap.len) (size : length new ≡ length mid)
    (same : (i : ℕ) (d : X) → (i ≡ from → ⊥) → get_or new i d ≡ get_or mid i d) where
  abbrev shorter : Gap
  shorter = record { at = from + 1; end = end + 1; len = gap.len - 1 }

  pub up_in : AreUp (seen_slots old rest gap) (seen_slots new rest (record { at = from + 1; end = end + 1; len = gap.len - 1 })) rest from end room
  up_in =
      record {
        size = size_seen new rest shorter ∙ size ∙ shifted.size ∙ sym (size_seen old rest gap);
        up = λ i d ge below. up i d ge below (cases_lt i gap.at);
        below = λ i d below. lower i d below (cases_lt i gap.at);
        above = λ i d past. inl (upper i d past (cases_lt i (length old)) (cases_lt i (gap.end + gap.len)));
      }
    where
      wide : length new ≡ length old
      wide = size ∙ shifted.size

      up : (i : ℕ) (d : X) → from ≤ i → i < end → (i < gap.at) ⊎ (gap.at ≤ i) → get_or (seen_slots new rest shorter) (i + 1) d ≡ get_or (seen_slots old rest gap) i d
      up i d ge below side =
          let far : i + 1 + (gap.len - 1) ≡ i + gap.len = omega (arith, some) in
          moved new rest shorter (i + 1) d (omega (arith, below, here, is.inside, wide, some)) (omega (arith, ge)) (omega (arith, below))
          ∙ ap (λ j. get_or new j rest) far
          ∙ same (i + gap.len) rest (λ equal. omega (arith, equal, ge, some))
          ∙ was side
        where
          was : (i < gap.at) ⊎ (gap.at ≤ i) → get_or mid (i + gap.len) rest ≡ get_or (seen_slots old rest gap) i d
          was (inl before) = shifted.up i rest ge before ∙ sym (low old rest gap i d (omega (arith, below, here, is.inside)) before)
          was (inr behind) =
              shifted.above (i + gap.len) rest (omega (arith, behind)) (omega (arith, ge))
              ∙ sym (moved old rest gap i d (omega (arith, below, here, is.inside)) behind (omega (arith, below, here)))

      lower : (i : ℕ) (d : X) → i < from → (i < gap.at) ⊎ (gap.at ≤ i) → get_or (seen_slots new rest shorter) i d ≡ get_or (seen_slots old rest gap) i d
      lower i d below side =
          low new rest shorter i d (omega (arith, below, less, here, is.inside, wide)) (omega (arith, below))
          ∙ same i rest (λ equal. omega (arith, equal, below))
          ∙ was side
        where
          was : (i < gap.at) ⊎ (gap.at ≤ i) → get_or mid i rest ≡ get_or (seen_slots old rest gap) i d
          was (inl before) = shifted.below i rest before below ∙ sym (low old rest gap i d (omega (arith, below, less, here, is.inside)) before)
          was (inr behind) =
              shifted.down i rest behind below
              ∙ sym (moved old rest gap i d (omega (arith, below, less, here, is.inside)) behind (omega (arith, below, less, here)))

      upper : (i : ℕ) (d : X) → end < i → (i < length old) ⊎ (length old ≤ i) → (i < gap.end + gap.len) ⊎ (gap.end + gap.len ≤ i)
          → get_or (seen_slots new rest shorter) i d ≡ get_or (seen_slots old rest gap) i d
      upper i d past (inl inside) (inl before) =
          free new rest shorter i d (omega (arith, inside, wide)) (omega (arith, less)) (omega (arith, past)) (omega (arith, before, here, some))
          ∙ sym (free old rest gap i d inside is.order (omega (arith, past, here)) before)
      upper i d past (inl inside) (inr behind) =
          high new rest shorter i d (omega (arith, inside, wide)) (omega (arith, less)) (omega (arith, behind, here, some))
          ∙ same i rest (λ equal. omega (arith, equal, past, less))
          ∙ shifted.above i rest (omega (arith, behind, is.order)) (omega (arith, behind, less, here))
          ∙ sym (high old rest gap i d inside is.order behind)
      upper i d past (inr out) side =
          get_or_past (seen_slots new rest shorter) i d (omega (arith, out, wide, size_seen new rest shorter))
          ∙ sym (get_or_past (seen_slots old rest gap) i d (omega (arith, out, size_seen old rest gap)))

-- The same where there was no gap: it was opened, as wide as there is room.
module _ {X : Type 0} (old mid new : List X) (rest : X) (from end room : ℕ) (some : 0 < room) (less : from < end) (inside : end + room ≤ length old)
    (copied : AreCopied old mid from (from + room) (end - from)) (size : length new ≡ length mid)
    (same : (i : ℕ) (d : X) → (i ≡ from → ⊥) → get_or new i d ≡ get_or mid i d) where
  abbrev wider : Gap
  wider = record { at = from + 1; end = end + 1; len = room - 1 }

  pub up_anew : AreUp old (seen_slots new rest (record { at = from + 1; end = end + 1; len = room - 1 })) rest from end room
  up_anew =
      record {
        size = size_seen new rest wider ∙ size ∙ copied.size;
        up = λ i d ge below.
            let far : i + 1 + (room - 1) ≡ i + room = omega (arith, some) in
            let back : from + (i + room - (from + room)) ≡ i = omega (arith, ge) in
            moved new rest wider (i + 1) d (omega (arith, below, inside, wide, some)) (omega (arith, ge)) (omega (arith, below))
            ∙ ap (λ j. get_or new j rest) far
            ∙ same (i + room) rest (λ equal. omega (arith, equal, ge, some))
            ∙ copied.copied (i + room) rest (omega (arith, ge)) (omega (arith, below, less))
            ∙ ap (λ j. get_or old j rest) back
            ∙ get_or_default old i rest d (omega (arith, below, inside));
        below = λ i d below.
            low new rest wider i d (omega (arith, below, less, inside, wide)) (omega (arith, below))
            ∙ same i rest (λ equal. omega (arith, equal, below))
            ∙ copied.below i rest (omega (arith, below))
            ∙ get_or_default old i rest d (omega (arith, below, less, inside));
        above = λ i d past. upper i d past (cases_lt i (length old)) (cases_lt i (end + room));
      }
    where
      wide : length new ≡ length old
      wide = size ∙ copied.size

      upper : (i : ℕ) (d : X) → end < i → (i < length old) ⊎ (length old ≤ i) → (i < end + room) ⊎ (end + room ≤ i)
          → (get_or (seen_slots new rest wider) i d ≡ get_or old i d) ⊎ ((i < end + room) × (get_or (seen_slots new rest wider) i d ≡ rest))
      upper i d past (inl within) (inl before) =
          inr (before, free new rest wider i d (omega (arith, within, wide)) (omega (arith, less)) (omega (arith, past)) (omega (arith, before, some)))
      upper i d past (inl within) (inr behind) =
          inl (
          high new rest wider i d (omega (arith, within, wide)) (omega (arith, less)) (omega (arith, behind, some))
          ∙ same i rest (λ equal. omega (arith, equal, past, less))
          ∙ copied.above i rest (omega (arith, behind, less))
          ∙ get_or_default old i rest d within
          )
      upper i d past (inr out) side =
          inl (get_or_past (seen_slots new rest wider) i d (omega (arith, out, wide, size_seen new rest wider)) ∙ sym (get_or_past old i d out))

-- what was written over has the value then
pub bare_up : {X : Type 0} (mid new : List X) (rest : X) (from end len : ℕ) → from < length mid → new ≡ slice_set mid from rest
    → get_or (seen_slots new rest (record { at = from + 1; end = end; len = len })) from rest ≡ rest
bare_up {X = X} mid new rest from end len inside is =
    low new rest (record { at = from + 1; end = end; len = len }) from rest (omega (arith, inside, ap length is ∙ length-set mid from rest)) (omega arith)
    ∙ ap (λ (xs : List X). get_or xs from rest) is
    ∙ get_or-set_same mid from rest rest inside

-- a write leaves the others
pub same_but : {X : Type 0} (mid new : List X) (x : X) (at : ℕ) → new ≡ slice_set mid at x → (i : ℕ) (d : X) → (i ≡ at → ⊥)
    → get_or new i d ≡ get_or mid i d
same_but {X = X} mid new x at is i d differ = ap (λ (xs : List X). get_or xs i d) is ∙ get_or-set_other mid at i x d differ

-- Elements that go down by one, at the gap.
module _ {X : Type 0} (old new : List X) (rest : X) (gap : Gap) (to last : ℕ) (is : IsGapIn (length old) gap) (here : gap.end ≡ last + 1)
    (less : to < last) (shifted : IsShifted old new gap.at to gap.len) where
  abbrev longer : Gap
  longer = record { at = to; end = last; len = gap.len + 1 }

  pub down_in : AreDown (seen_slots old rest gap) (seen_slots new rest (record { at = to; end = last; len = gap.len + 1 })) rest to last
  down_in =
      record {
        size = size_seen new rest longer ∙ shifted.size ∙ sym (size_seen old rest gap);
        down = λ i d ge below. down i d ge below (cases_lt (i + 1) gap.at);
        below = λ i d below. lower i d below (cases_lt i gap.at);
        here = λ d. free new rest longer last d (omega (arith, here, is.inside, wide)) (omega (arith, less)) (omega arith) (omega arith);
        above = λ i d past. upper i d past (cases_lt i (length old)) (cases_lt i (gap.end + gap.len));
      }
    where
      wide : length new ≡ length old
      wide = shifted.size

      down : (i : ℕ) (d : X) → to ≤ i → i < last → (i + 1 < gap.at) ⊎ (gap.at ≤ i + 1)
          → get_or (seen_slots new rest longer) i d ≡ get_or (seen_slots old rest gap) (i + 1) d
      down i d ge below side =
          let far : i + (gap.len + 1) ≡ i + 1 + gap.len = omega arith in
          moved new rest longer i d (omega (arith, below, here, is.inside, wide)) ge below
          ∙ ap (λ j. get_or new j rest) far
          ∙ was side
        where
          was : (i + 1 < gap.at) ⊎ (gap.at ≤ i + 1) → get_or new (i + 1 + gap.len) rest ≡ get_or (seen_slots old rest gap) (i + 1) d
          was (inl before) =
              shifted.up (i + 1) rest (omega (arith, ge)) before ∙ sym (low old rest gap (i + 1) d (omega (arith, below, here, is.inside)) before)
          was (inr behind) =
              shifted.above (i + 1 + gap.len) rest (omega (arith, behind)) (omega (arith, ge))
              ∙ sym (moved old rest gap (i + 1) d (omega (arith, below, here, is.inside)) behind (omega (arith, below, here)))

      lower : (i : ℕ) (d : X) → i < to → (i < gap.at) ⊎ (gap.at ≤ i) → get_or (seen_slots new rest longer) i d ≡ get_or (seen_slots old rest gap) i d
      lower i d below side =
          low new rest longer i d (omega (arith, below, less, here, is.inside, wide)) below
          ∙ was side
        where
          was : (i < gap.at) ⊎ (gap.at ≤ i) → get_or new i rest ≡ get_or (seen_slots old rest gap) i d
          was (inl before) = shifted.below i rest before below ∙ sym (low old rest gap i d (omega (arith, below, less, here, is.inside)) before)
          was (inr behind) =
              shifted.down i rest behind below
              ∙ sym (moved old rest gap i d (omega (arith, below, less, here, is.inside)) behind (omega (arith, below, less, here)))

      upper : (i : ℕ) (d : X) → last < i → (i < length old) ⊎ (length old ≤ i) → (i < gap.end + gap.len) ⊎ (gap.end + gap.len ≤ i)
          → get_or (seen_slots new rest longer) i d ≡ get_or (seen_slots old rest gap) i d
      upper i d past (inl inside) (inl before) =
          free new rest longer i d (omega (arith, inside, wide)) (omega (arith, less)) (omega (arith, past)) (omega (arith, before, here))
          ∙ sym (free old rest gap i d inside is.order (omega (arith, past, here)) before)
      upper i d past (inl inside) (inr behind) =
          high new rest longer i d (omega (arith, inside, wide)) (omega (arith, less)) (omega (arith, behind, here))
          ∙ shifted.above i rest (omega (arith, behind, is.order)) (omega (arith, behind, less, here))
          ∙ sym (high old rest gap i d inside is.order behind)
      upper i d past (inr out) side =
          get_or_past (seen_slots new rest longer) i d (omega (arith, out, wide, size_seen new rest longer))
          ∙ sym (get_or_past (seen_slots old rest gap) i d (omega (arith, out, size_seen old rest gap)))

-- The same where there was no gap: nothing moves.
module _ {X : Type 0} (old : List X) (rest : X) (to last : ℕ) (less : to < last) (inside : last < length old) where
  abbrev single : Gap
  single = record { at = to; end = last; len = 1 }

  pub down_anew : AreDown old (seen_slots old rest (record { at = to; end = last; len = 1 })) rest to last
  down_anew =
      record {
        size = size_seen old rest single;
        down = λ i d ge below.
            moved old rest single i d (omega (arith, below, inside)) ge below ∙ get_or_default old (i + 1) rest d (omega (arith, below, inside));
        below = λ i d below.
            low old rest single i d (omega (arith, below, less, inside)) below ∙ get_or_default old i rest d (omega (arith, below, less, inside));
        here = λ d. free old rest single last d inside (omega (arith, less)) (omega arith) (omega arith);
        above = λ i d past. upper i d past (cases_lt i (length old));
      }
    where
      upper : (i : ℕ) (d : X) → last < i → (i < length old) ⊎ (length old ≤ i) → get_or (seen_slots old rest single) i d ≡ get_or old i d
      upper i d past (inl within) =
          high old rest single i d within (omega (arith, less)) (omega (arith, past)) ∙ get_or_default old i rest d within
      upper i d past (inr out) = get_or_past (seen_slots old rest single) i d (omega (arith, out, size_seen old rest single)) ∙ sym (get_or_past old i d out)

-- An element that is written where it is.
module _ {X : Type 0} (items : List X) (rest x : X) (gap : Gap) (is : IsGapIn (length items) gap) (i place : ℕ) (inside : i < length items) where
  written_by : ((ys : List X) (d : X) → length ys ≡ length items → get_or (seen_slots ys rest gap) i d ≡ get_or ys place rest) → place < length items
      → ((k : ℕ) → (k ≡ i → ⊥) → k < gap.at → k ≡ place → ⊥) → ((k : ℕ) → (k ≡ i → ⊥) → gap.at ≤ k → k < gap.end → k + gap.len ≡ place → ⊥)
      → ((k : ℕ) → (k ≡ i → ⊥) → gap.at ≤ k → gap.end + gap.len ≤ k → k ≡ place → ⊥)
      → seen_slots (slice_set items place x) rest gap ≡ slice_set (seen_slots items rest gap) i x
  written_by reads within apart_low apart_moved apart_high =
      same_lists (seen_slots new rest gap) (slice_set (seen_slots items rest gap) i x) level (λ k d below.
      by k d (omega (arith, below, wide, size_seen new rest gap)) (cases_eq k i))
    where
      new : List X
      new = slice_set items place x

      wide : length new ≡ length items
      wide = length-set items place x

      level : length (seen_slots new rest gap) ≡ length (slice_set (seen_slots items rest gap) i x)
      level = size_seen new rest gap ∙ wide ∙ sym (length-set (seen_slots items rest gap) i x ∙ size_seen items rest gap)

      other : (k : ℕ) (d : X) → k < length items → (k ≡ i → ⊥) → (k < gap.at) ⊎ (gap.at ≤ k) → (k < gap.end) ⊎ (gap.end ≤ k)
          → (k < gap.end + gap.len) ⊎ (gap.end + gap.len ≤ k) → get_or (seen_slots new rest gap) k d ≡ get_or (seen_slots items rest gap) k d
      other k d inside differ (inl less) side far =
          low new rest gap k d (omega (arith, inside, wide)) less
          ∙ get_or-set_other items place k x rest (apart_low k differ less)
          ∙ sym (low items rest gap k d inside less)
      other k d inside differ (inr ge) (inl less) far =
          moved new rest gap k d (omega (arith, inside, wide)) ge less
          ∙ get_or-set_other items place (k + gap.len) x rest (apart_moved k differ ge less)
          ∙ sym (moved items rest gap k d inside ge less)
      other k d inside differ (inr ge) (inr past) (inl less) =
          free new rest gap k d (omega (arith, inside, wide)) is.order past less ∙ sym (free items rest gap k d inside is.order past less)
      other k d inside differ (inr ge) (inr past) (inr more) =
          high new rest gap k d (omega (arith, inside, wide)) is.order more
          ∙ get_or-set_other items place k x rest (apart_high k differ ge more)
          ∙ sym (high items rest gap k d inside is.order more)

      by : (k : ℕ) (d : X) → k < length items → (k ≡ i) ⊎ (k ≡ i → ⊥) → get_or (seen_slots new rest gap) k d ≡ get_or (slice_set (seen_slots items rest gap) i x) k d
      by k d below (inl same) =
          ap (λ j. get_or (seen_slots new rest gap) j d) same
          ∙ reads new d wide
          ∙ get_or-set_same items place x rest within
          ∙ sym (get_or-set_same (seen_slots items rest gap) i x d (omega (arith, inside, size_seen items rest gap)))
          ∙ ap (λ j. get_or (slice_set (seen_slots items rest gap) i x) j d) (sym same)
      by k d below (inr differ) =
          other k d below differ (cases_lt k gap.at) (cases_lt k gap.end) (cases_lt k (gap.end + gap.len))
          ∙ sym (get_or-set_other (seen_slots items rest gap) i k x d differ)

  pub written : IsWrittenAt gap i place → seen_slots (slice_set items place x) rest gap ≡ slice_set (seen_slots items rest gap) i x
  written (inl (less, same)) =
      written_by (λ ys d size. low ys rest gap i d (omega (arith, inside, size)) less ∙ ap (λ j. get_or ys j rest) (sym same))
      (omega (arith, same, inside)) (λ k differ before equal. let again : k ≡ i = omega (arith, equal, same) in differ again)
      (λ k differ ge below equal. omega (arith, equal, same, less, ge)) (λ k differ ge far equal. omega (arith, equal, same, less, ge))
  written (inr (inl (ge, (less, same)))) =
      written_by (λ ys d size. moved ys rest gap i d (omega (arith, inside, size)) ge less ∙ ap (λ j. get_or ys j rest) (sym same))
      (omega (arith, same, less, is.inside)) (λ k differ before equal. omega (arith, equal, same, before, ge))
      (λ k differ above below equal. let again : k ≡ i = omega (arith, equal, same) in differ again)
      (λ k differ above far equal. omega (arith, equal, same, less, far))
  written (inr (inr (ge, (far, same)))) =
      written_by (λ ys d size. high ys rest gap i d (omega (arith, inside, size)) is.order far ∙ ap (λ j. get_or ys j rest) (sym same))
      (omega (arith, same, inside)) (λ k differ before equal. omega (arith, equal, same, before, ge))
      (λ k differ above below equal. omega (arith, equal, same, far, below))
      (λ k differ above past equal. let again : k ≡ i = omega (arith, equal, same) in differ again)
