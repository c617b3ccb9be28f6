use Rattle.std.proofs.Common.{◌≡◌, ℕ, ◌+◌, ◌-◌, ◌%◌, ◌<◌, ◌≤◌, inl, inr, List, length, Option, Some, None, subst, sym, ap, refl, ◌∙◌, arith}
use Rattle.std.specs.Prelude.{◌⊎◌}
use Rattle.std.proofs.Math.Nat.{add-mod_right}
use Rattle.std.proofs.lemmas.Bool.{cases_lt, cases_order}
use Rattle.overlay_mapping_table.specs.declared.entry.Entry.{Entry}
use Rattle.overlay_mapping_table.specs.Homes.{home_number}
use Rattle.overlay_mapping_table.specs.Rows.{ring, AreInOrder, HasWay}
use Rattle.overlay_mapping_table.specs.Probes.{AreSound, WouldStandAt}
use Rattle.overlay_mapping_table.specs.Shifts.{IsEnd, IsLastRow}
use Rattle.overlay_mapping_table.proofs.Ways.{placed, same_minus, way_back, way_next}
use Rattle.overlay_mapping_table.proofs.Searching.{has_at, has_once, has_row, has_some, not_bare, some, spare_from}

-- The order of rows, after one was put in or taken out.

-- what a place is led by: a row whose home lies no further on than that of a row w steps behind its home
abbrev IsLed : ℕ → List (Option (ℕ × Entry)) → ℕ → ℕ → ℕ → Type 0
IsLed n slots place w i = (v : ℕ) × HasWay n slots i v × (i + w ≤ place + v)

-- order is a matter of one round
pub in_round : (n start : ℕ) (slots : List (Option (ℕ × Entry))) → 0 < n → n ≤ start
    → ((q w i : ℕ) → start ≤ q → q < start + n → HasWay n slots q w → i < q → q ≤ i + w → IsLed n slots q w i) → AreInOrder n slots
in_round n start slots some far round place w i has before le =
    let at = placed n start place some in
    let steps : place - i < n = omega (arith, has.way.near, le) in
    let back : at.place - (place - i) + (place - i) ≡ at.place = omega (arith, steps, far, at.low) in
    let on : i + (place - i) ≡ place = omega (arith, before) in
    let same : (at.place - (place - i)) % n ≡ i % n =
    same_minus n (at.place - (place - i)) i (place - i) some (ap (λ x. x % n) back ∙ at.same ∙ ap (λ x. x % n) (sym on)) in
    let led = round at.place w (at.place - (place - i)) at.low at.near (has_at n slots w place at.place (sym at.same) has)
    (omega (arith, before, back)) (omega (arith, le, back, before)) in
    (led.0, has_at n slots led.0 (at.place - (place - i)) i same led.1, omega (arith, led.2, back, before))

-- a row stands fewer steps than slots behind its home, as some slot is empty
pub short : (slots : List (Option (ℕ × Entry))) → AreSound slots → (p w : ℕ) → HasWay (length slots) slots p w → w + 1 < length slots
short slots sound p w has = by (cases_lt (w + 1) (length slots))
  where
    round : p % length slots ≡ (p + length slots) % length slots
    round = sym (add-mod_right p (length slots))

    at_end : (e : ℕ) → p + 1 ≤ e → e < p + 1 + length slots → ring (length slots) slots e ≡ None → length slots ≤ w + 1
        → (e < p + length slots) ⊎ (p + length slots ≤ e) → ⊥
    at_end e low near none ge (inl before) =
        let led = sound.order (p + length slots) w e (has_at (length slots) slots w p (p + length slots) round has) before (omega (arith, low, ge)) in
        not_bare (length slots) slots led.0 e e led.1 none refl
    at_end e low near none ge (inr behind) =
        let same : p + length slots ≡ e = omega (arith, near, behind) in
        not_bare (length slots) slots w p e has none (round ∙ ap (λ x. x % length slots) same)

    by : (w + 1 < length slots) ⊎ (length slots ≤ w + 1) → w + 1 < length slots
    by (inl less) = less
    by (inr ge) =
        let e = spare_from slots sound (p + 1) in
        absurd (at_end e.0 e.1 e.2 e.3 ge (cases_lt e.0 (p + length slots)))

-- A row was put in at a place, and those from there up to the end went up by one.
module _ (old new : List (Option (ℕ × Entry))) (name place end : ℕ) (x : Entry) (sound : AreSound old) (gap : WouldStandAt old name place)
    (last : IsEnd (length old) old place end) (here : ring (length old) new place ≡ Some (name, x))
    (up : (i : ℕ) → place ≤ i → i < end → ring (length old) new (i + 1) ≡ ring (length old) old i)
    (other : (i : ℕ) → end < i → i < place + length old → ring (length old) new i ≡ ring (length old) old i) where
  has_here : HasWay (length old) new place gap.steps
  has_here = record { name = name; value = x; is = here; way = gap.way }

  -- rows behind the end, and before the place
  stays : (i v : ℕ) → end < i → i < place + length old → HasWay (length old) old i v → HasWay (length old) new i v
  stays i v low less has = record { name = has.name; value = has.value; is = other i low less ∙ has.is; way = has.way }

  before : (i v : ℕ) → i < place → end < i + length old → HasWay (length old) old i v → HasWay (length old) new i v
  before i v less clear has =
      has_at (length old) new v (i + length old) i (add-mod_right i (length old))
      (stays (i + length old) v clear (omega (arith, less)) (has_at (length old) old v i (i + length old) (sym (add-mod_right i (length old))) has))

  clear : (i j : ℕ) → i < place → place ≤ j → ((k : ℕ) → i ≤ k → k < j → (v : ℕ) × HasWay (length old) old k v) → end < i + length old
  clear i j less le taken = by (cases_lt end (i + length old))
    where
      by : (end < i + length old) ⊎ (i + length old ≤ end) → end < i + length old
      by (inl near) = near
      by (inr far) =
          let has = taken (end - length old) (omega (arith, far)) (omega (arith, last.near, le, far, some old sound)) in
          let back : end - length old + length old ≡ end = omega (arith, far) in
          absurd (not_bare (length old) old has.0 (end - length old) end has.1 last.bare
          (sym (add-mod_right (end - length old) (length old)) ∙ ap (λ y. y % length old) back))

  -- rows that went up
  went : (i v : ℕ) → place ≤ i → i < end → HasWay (length old) old i v → HasWay (length old) new (i + 1) (v + 1)
  went i v low less has =
      record {
        name = has.name;
        value = has.value;
        is = up i low less ∙ has.is;
        way = way_next (length old) (home_number has.name) v i has.way (short old sound i v has);
      }

  came : (i w : ℕ) → place ≤ i → i < end → HasWay (length old) new (i + 1) w → (v : ℕ) × HasWay (length old) old i v × (w ≡ v + 1)
  came i w low less has =
      let is = has_row (length old) old i (has.name, has.value) (some old sound) (sym (up i low less) ∙ has.is) in
      let v = (i + length old - home_number has.name % length old) % length old in (
        v,
        is,
        has_once (length old) new w (v + 1) (i + 1) (i + 1) has (went i v low less is) refl,
      )

  led_here : (w i : ℕ) → HasWay (length old) new place w → i < place → place ≤ i + w → IsLed (length old) new place w i
  led_here w i has less le =
      let same = has_once (length old) new w gap.steps place place has has_here refl in
      let led = gap.led i less (omega (arith, le, same)) in
      let near = clear i place less (omega arith)
      (λ k low below. let by = gap.led k below (omega (arith, le, same, low)) in (by.0, by.1)) in
      (led.0, before i led.0 less near led.1, omega (arith, led.2, same))

  led_up : (j w i : ℕ) → place ≤ j → j < end → (v : ℕ) → HasWay (length old) old j v → w ≡ v + 1 → i < j + 1 → j + 1 ≤ i + w
      → (i ≡ place) ⊎ ((i < place) ⊎ (place < i)) → IsLed (length old) new (j + 1) w i
  led_up j w i low less v has same below le (inl at) = (gap.steps, subst (λ k. HasWay (length old) new k gap.steps) (sym at) has_here, far (cases_lt place j))
    where
      far : (place < j) ⊎ (j ≤ place) → i + w ≤ j + 1 + gap.steps
      far (inl behind) =
          let led = sound.order j v place has behind (omega (arith, le, same, at)) in
          let stop = gap.stops led.0 led.1 in
          omega (arith, led.2, stop, same, at)
      far (inr ge) =
          let here : j ≡ place = omega (arith, ge, low) in
          let stop = gap.stops v (subst (λ k. HasWay (length old) old k v) here has) in
          omega (arith, stop, same, at, here)
  led_up j w i low less v has same below le (inr (inl front)) =
      let led = sound.order j v i has (omega (arith, front, low)) (omega (arith, le, same)) in
      let near = clear i j front low (λ k above under. let by = sound.order j v k has under (omega (arith, le, same, above)) in (by.0, by.1)) in
      (led.0, before i led.0 front near led.1, omega (arith, led.2, same))
  led_up j w i low less v has same below le (inr (inr behind)) = by (cases_lt (i - 1 + v) j)
    where
      back : i - 1 + 1 ≡ i
      back = omega (arith, behind)

      to_new : (u : ℕ) → HasWay (length old) old (i - 1) u → HasWay (length old) new i (u + 1)
      to_new u is =
          subst (λ k. HasWay (length old) new k (u + 1)) back (went (i - 1) u (omega (arith, behind)) (omega (arith, below, less, behind)) is)

      by : (i - 1 + v < j) ⊎ (j ≤ i - 1 + v) → IsLed (length old) new (j + 1) w i
      by (inl short_way) =
          let has_one = has_some (length old) old (i - 1) (some old sound) (last.taken (i - 1) (omega (arith, behind)) (omega (arith, below, less, behind))) in
          (has_one.0 + 1, to_new has_one.0 has_one.1, omega (arith, short_way, same, behind))
      by (inr long_way) =
          let led = sound.order j v (i - 1) has (omega (arith, below, behind)) long_way in
          (led.0 + 1, to_new led.0 led.1, omega (arith, led.2, same, behind))

  led_behind : (q w i : ℕ) → end < q → q < place + length old → HasWay (length old) new q w → i < q → q ≤ i + w → (end < i) ⊎ (i ≤ end)
      → IsLed (length old) new q w i
  led_behind q w i low near has less le side = by side
    where
      was : HasWay (length old) old q w
      was = record { name = has.name; value = has.value; is = sym (other q low near) ∙ has.is; way = has.way }

      by : (end < i) ⊎ (i ≤ end) → IsLed (length old) new q w i
      by (inl behind) = let led = sound.order q w i was less le in (led.0, stays i led.0 behind (omega (arith, less, near)) led.1, led.2)
      by (inr front) =
          let led = sound.order q w end was low (omega (arith, le, front)) in absurd (not_bare (length old) old led.0 end end led.1 last.bare refl)

  pub order_put : AreInOrder (length old) new
  order_put = in_round (length old) place new (some old sound) gap.low (λ q w i low near has less le. by q w i low near has less le (cases_order q place))
    where
      behind : (q w i : ℕ) → place < q → q < place + length old → HasWay (length old) new q w → i < q → q ≤ i + w → (end < q) ⊎ (q ≤ end)
          → IsLed (length old) new q w i
      behind q w i low near has less le (inl over) = led_behind q w i over near has less le (cases_lt end i)
      behind q w i low near has less le (inr under) =
          let back : q - 1 + 1 ≡ q = omega (arith, low) in
          let was = came (q - 1) w (omega (arith, low)) (omega (arith, under, low)) (subst (λ k. HasWay (length old) new k w) (sym back) has) in
          subst (λ k. IsLed (length old) new k w i) back
          (led_up (q - 1) w i (omega (arith, low)) (omega (arith, under, low)) was.0 was.1 was.2 (omega (arith, less, back)) (omega (arith, le, back)) (cases_order i place))

      by : (q w i : ℕ) → place ≤ q → q < place + length old → HasWay (length old) new q w → i < q → q ≤ i + w
          → (q ≡ place) ⊎ ((q < place) ⊎ (place < q)) → IsLed (length old) new q w i
      by q w i low near has less le (inl same) =
          subst (λ k. IsLed (length old) new k w i) (sym same)
          (led_here w i (subst (λ k. HasWay (length old) new k w) same has) (omega (arith, less, same)) (omega (arith, le, same)))
      by q w i low near has less le (inr (inl front)) = absurd (omega (arith, low, front))
      by q w i low near has less le (inr (inr after)) = behind q w i after near has less le (cases_lt end q)

-- A row was taken out, and those behind it up to the last one went down by one.
module _ (old new : List (Option (ℕ × Entry))) (hole last : ℕ) (sound : AreSound old) (far : length old ≤ hole) (is_last : IsLastRow (length old) old hole last)
    (down : (i : ℕ) → hole ≤ i → i < last → ring (length old) new i ≡ ring (length old) old (i + 1))
    (stay : (i : ℕ) → last < i → i < hole + length old → ring (length old) new i ≡ ring (length old) old i)
    (bare : ring (length old) new last ≡ None) where
  stayed : (i v : ℕ) → last < i → i < hole + length old → HasWay (length old) old i v → HasWay (length old) new i v
  stayed i v low less has = record { name = has.name; value = has.value; is = stay i low less ∙ has.is; way = has.way }

  -- rows that went down
  fell : (i v : ℕ) → hole ≤ i → i < last → HasWay (length old) old (i + 1) (v + 1) → HasWay (length old) new i v
  fell i v low less has =
      record {
        name = has.name;
        value = has.value;
        is = down i low less ∙ has.is;
        way = way_back (length old) (home_number has.name) v i has.way;
      }

  fallen : (i w : ℕ) → hole ≤ i → i < last → HasWay (length old) new i w → HasWay (length old) old (i + 1) (w + 1)
  fallen i w low less has =
      let was = is_last.passed (i + 1) (omega (arith, low)) (omega (arith, less)) in
      let same = has_once (length old) new w was.0 i i has (fell i was.0 low less was.1) refl in
      subst (λ v. HasWay (length old) old (i + 1) (v + 1)) (sym same) was.1

  -- a row before the hole, where all from there to a row are taken
  ahead : (i q v : ℕ) → i < hole → hole ≤ q → HasWay (length old) old i v
      → ((k : ℕ) → i ≤ k → k < q → (u : ℕ) × HasWay (length old) old k u) → HasWay (length old) new i v
  ahead i q v less low has taken = by (cases_lt last (i + length old))
    where
      by : (last < i + length old) ⊎ (i + length old ≤ last) → HasWay (length old) new i v
      by (inl clear) =
          has_at (length old) new v (i + length old) i (add-mod_right i (length old))
          (stayed (i + length old) v clear (omega (arith, less)) (has_at (length old) old v i (i + length old) (sym (add-mod_right i (length old))) has))
      by (inr over) =
          let e = is_last.end in
          let has_end = taken (e.0 - length old) (omega (arith, over, e.1)) (omega (arith, e.2, low, some old sound)) in
          let back : e.0 - length old + length old ≡ e.0 = omega (arith, over, e.1) in
          absurd (not_bare (length old) old has_end.0 (e.0 - length old) e.0 has_end.1 e.3
          (sym (add-mod_right (e.0 - length old) (length old)) ∙ ap (λ y. y % length old) back))

  led_down : (q w i : ℕ) → hole ≤ q → q < last → HasWay (length old) old (q + 1) (w + 1) → i < q → q ≤ i + w → (i < hole) ⊎ (hole ≤ i)
      → IsLed (length old) new q w i
  led_down q w i low less has below le (inl front) =
      let led = sound.order (q + 1) (w + 1) i has (omega (arith, below)) (omega (arith, le)) in (
        led.0,
        ahead i q led.0 front low led.1
            (λ k above under. let by = sound.order (q + 1) (w + 1) k has (omega (arith, under)) (omega (arith, le, above)) in (by.0, by.1)),
        omega (arith, led.2),
      )
  led_down q w i low less has below le (inr behind) =
      let led = sound.order (q + 1) (w + 1) (i + 1) has (omega (arith, below)) (omega (arith, le)) in
      let was = is_last.passed (i + 1) (omega (arith, behind)) (omega (arith, below, less)) in
      let same = has_once (length old) old led.0 (was.0 + 1) (i + 1) (i + 1) led.1 was.1 refl in
      (was.0, fell i was.0 behind (omega (arith, below, less)) was.1, omega (arith, led.2, same))

  led_over : (q w i : ℕ) → last < q → q < hole + length old → HasWay (length old) old q w → i < q → q ≤ i + w → (last < i) ⊎ (i ≤ last)
      → IsLed (length old) new q w i
  led_over q w i low near has less le (inl behind) =
      let led = sound.order q w i has less le in (led.0, stayed i led.0 behind (omega (arith, less, near)) led.1, led.2)
  led_over q w i low near has less le (inr front) = absurd (by (cases_lt (last + 1) q))
    where
      by : (last + 1 < q) ⊎ (q ≤ last + 1) → ⊥
      by (inl over) =
          let led = sound.order q w (last + 1) has over (omega (arith, le, front)) in
          let home = is_last.stops led.0 led.1 in
          omega (arith, led.2, home, le, front)
      by (inr under) =
          let here : q ≡ last + 1 = omega (arith, low, under) in
          let home = is_last.stops w (subst (λ k. HasWay (length old) old k w) here has) in
          omega (arith, home, le, less)

  pub order_take : AreInOrder (length old) new
  order_take = in_round (length old) hole new (some old sound) far (λ q w i low near has less le. by q w i low near has less le (cases_order q last))
    where
      by : (q w i : ℕ) → hole ≤ q → q < hole + length old → HasWay (length old) new q w → i < q → q ≤ i + w
          → (q ≡ last) ⊎ ((q < last) ⊎ (last < q)) → IsLed (length old) new q w i
      by q w i low near has less le (inl same) = absurd (not_bare (length old) new w q last has bare (ap (λ y. y % length old) same))
      by q w i low near has less le (inr (inl front)) = led_down q w i low front (fallen q w low front has) less le (cases_lt i hole)
      by q w i low near has less le (inr (inr behind)) =
          led_over q w i behind near
          (record { name = has.name; value = has.value; is = sym (stay q behind near) ∙ has.is; way = has.way }) less le (cases_lt last i)
