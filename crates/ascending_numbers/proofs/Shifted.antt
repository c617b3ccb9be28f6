use Rattle.std.proofs.Common.{◌≡◌, ◌≢◌, ℕ, ◌+◌, ◌-◌, ◌<◌, ◌≤◌, suc, List, length, get_or, set, drop, sym, ap, subst, ◌∙◌, arith, inl, inr}
use Rattle.std.specs.List.{CopiedTo, SameBelow, SameFrom, insert, remove}
use Rattle.std.proofs.lemmas.Bool.{cases_lt, cases_order}
use Rattle.std.proofs.lemmas.List.{ext_get_or, get_or-drop, get_or-set_same, get_or-set_other, length-drop, length-set}
use Rattle.std.proofs.lemmas.List.Edits.{get_or-insert_at, get_or-insert_below, get_or-insert_above, get_or-remove_below, get_or-remove_above, length-insert, length-remove}

-- Numbers behind some room, where one is put in or taken out.

-- what numbers behind some room have where one was put among them
module _ (xs : List ℕ) (from at p : ℕ) (within : from + at ≤ length xs) where
  fits : at ≤ length (drop from xs)
  fits = omega (arith, length-drop from xs, within)

  put_there : get_or (insert (drop from xs) at p) at 0 ≡ p
  put_there = get_or-insert_at (drop from xs) at p 0 fits

  put_below : (k : ℕ) → k < at → get_or (insert (drop from xs) at p) k 0 ≡ get_or xs (from + k) 0
  put_below k below = get_or-insert_below (drop from xs) at p 0 k below fits ∙ get_or-drop from xs k 0

  put_above : (k : ℕ) → at ≤ k → get_or (insert (drop from xs) at p) (k + 1) 0 ≡ get_or xs (from + k) 0
  put_above k above = get_or-insert_above (drop from xs) at p 0 k above fits ∙ get_or-drop from xs k 0

  put_count : length (insert (drop from xs) at p) ≡ length xs - from + 1
  put_count = length-insert (drop from xs) at p fits ∙ ap (λ n. n + 1) (length-drop from xs)

  -- they are those behind some other room, where these are so
  pub is_put : (zs : List ℕ) (to : ℕ) → length zs - to ≡ length xs - from + 1 → get_or zs (to + at) 0 ≡ p
      → ((k : ℕ) → k < at → get_or zs (to + k) 0 ≡ get_or xs (from + k) 0)
      → ((k : ℕ) → at ≤ k → k < length xs - from → get_or zs (to + (k + 1)) 0 ≡ get_or xs (from + k) 0)
      → drop to zs ≡ insert (drop from xs) at p
  is_put zs to count here below above =
      ext_get_or 0 (drop to zs) (insert (drop from xs) at p) (length-drop to zs ∙ count ∙ sym put_count) (λ i inside. get_or-drop to zs i 0 ∙ same i (omega (arith, inside, length-drop to zs, count)))
    where
      same : (i : ℕ) → i < length xs - from + 1 → get_or zs (to + i) 0 ≡ get_or (insert (drop from xs) at p) i 0
      same i inside = elim (cases_order i at) [
        | inl is ↦ ap (λ k. get_or zs (to + k) 0) is ∙ here ∙ sym put_there ∙ ap (λ k. get_or (insert (drop from xs) at p) k 0) (sym is)
        | inr (inl less) ↦ below i less ∙ sym (put_below i less)
        | inr (inr more) ↦
            let next : i - 1 + 1 ≡ i = omega (arith, more) in
            subst (λ k. get_or zs (to + k) 0 ≡ get_or (insert (drop from xs) at p) k 0) next
            (above (i - 1) (omega (arith, more)) (omega (arith, more, inside)) ∙ sym (put_above (i - 1) (omega (arith, more))))
      ]

-- those before a place were moved a step down, and the number put behind them
pub put_down : (xs ys : List ℕ) (from at p : ℕ) → 0 < from → from + at ≤ length xs → length ys ≡ length xs
    → CopiedTo xs ys from (from - 1) at → SameFrom xs ys (from - 1 + at)
    → drop (from - 1) (set ys (from - 1 + at) p) ≡ insert (drop from xs) at p
put_down xs ys from at p some within count copied same =
    is_put xs from at p within (set ys (from - 1 + at) p) (from - 1) (omega (arith, length-set ys (from - 1 + at) p, count, some, within))
    (get_or-set_same ys (from - 1 + at) p 0 (omega (arith, count, some, within)))
    (λ k below.
    let place : from + (from - 1 + k - (from - 1)) ≡ from + k = omega arith in
    get_or-set_other ys (from - 1 + at) (from - 1 + k) p 0 (λ is. omega (arith, is, below))
    ∙ copied (from - 1 + k) 0 (omega arith) (omega (arith, below)) ∙ ap (λ n. get_or xs n 0) place)
    (λ k above inside.
    let place : from - 1 + (k + 1) ≡ from + k = omega (arith, some) in
    get_or-set_other ys (from - 1 + at) (from - 1 + (k + 1)) p 0 (λ is. omega (arith, is, above))
    ∙ same (from - 1 + (k + 1)) 0 (omega (arith, above)) ∙ ap (λ n. get_or xs n 0) place)

-- those behind it moved a step up
pub put_up : (xs : List ℕ) (from at p : ℕ) → from + at ≤ length xs → drop from (insert xs (from + at) p) ≡ insert (drop from xs) at p
put_up xs from at p within =
    is_put xs from at p within (insert xs (from + at) p) from (omega (arith, length-insert xs (from + at) p within, within))
    (get_or-insert_at xs (from + at) p 0 within)
    (λ k below. get_or-insert_below xs (from + at) p 0 (from + k) (omega (arith, below)) within)
    (λ k above inside.
    let place : from + k + 1 ≡ from + (k + 1) = omega arith in
    subst (λ n. get_or (insert xs (from + at) p) n 0 ≡ get_or xs (from + k) 0) place (get_or-insert_above xs (from + at) p 0 (from + k) (omega (arith, above)) within))

-- the same of one that was taken out
module _ (xs : List ℕ) (from at : ℕ) (within : from + at < length xs) where
  there : at < length (drop from xs)
  there = omega (arith, length-drop from xs, within)

  left_count : length (remove (drop from xs) at) + 1 ≡ length xs - from
  left_count = length-remove (drop from xs) at there ∙ length-drop from xs

  left_below : (k : ℕ) → k < at → get_or (remove (drop from xs) at) k 0 ≡ get_or xs (from + k) 0
  left_below k below = get_or-remove_below (drop from xs) at 0 k below there ∙ get_or-drop from xs k 0

  left_above : (k : ℕ) → at ≤ k → get_or (remove (drop from xs) at) k 0 ≡ get_or xs (from + (k + 1)) 0
  left_above k above = get_or-remove_above (drop from xs) at 0 k above there ∙ get_or-drop from xs (k + 1) 0

  pub is_taken : (zs : List ℕ) (to : ℕ) → length zs - to + 1 ≡ length xs - from
      → ((k : ℕ) → k < at → get_or zs (to + k) 0 ≡ get_or xs (from + k) 0)
      → ((k : ℕ) → at ≤ k → k + 1 < length xs - from → get_or zs (to + k) 0 ≡ get_or xs (from + (k + 1)) 0)
      → drop to zs ≡ remove (drop from xs) at
  is_taken zs to count below above =
      ext_get_or 0 (drop to zs) (remove (drop from xs) at) (omega (arith, length-drop to zs, count, left_count))
      (λ i inside. get_or-drop to zs i 0 ∙ same i (omega (arith, inside, length-drop to zs, count)))
    where
      same : (i : ℕ) → i + 1 < length xs - from → get_or zs (to + i) 0 ≡ get_or (remove (drop from xs) at) i 0
      same i inside = elim (cases_lt i at) [
        | inl less ↦ below i less ∙ sym (left_below i less)
        | inr more ↦ above i more inside ∙ sym (left_above i more)
      ]

pub taken_up : (xs ys : List ℕ) (from at : ℕ) → from + at < length xs → length ys ≡ length xs
    → CopiedTo xs ys from (from + 1) at → SameFrom xs ys (from + 1 + at) → drop (from + 1) ys ≡ remove (drop from xs) at
taken_up xs ys from at within count copied same =
    is_taken xs from at within ys (from + 1) (omega (arith, count, within))
    (λ k below.
    let place : from + (from + 1 + k - (from + 1)) ≡ from + k = omega arith in
    copied (from + 1 + k) 0 (omega arith) (omega (arith, below)) ∙ ap (λ n. get_or xs n 0) place)
    (λ k above inside.
    let place : from + 1 + k ≡ from + (k + 1) = omega arith in
    same (from + 1 + k) 0 (omega (arith, above)) ∙ ap (λ n. get_or xs n 0) place)

pub taken_down : (xs : List ℕ) (from at : ℕ) → from + at < length xs → drop from (remove xs (from + at)) ≡ remove (drop from xs) at
taken_down xs from at within =
    is_taken xs from at within (remove xs (from + at)) from (omega (arith, length-remove xs (from + at) within, within))
    (λ k below. get_or-remove_below xs (from + at) 0 (from + k) (omega (arith, below)) within)
    (λ k above inside.
    let place : from + k + 1 ≡ from + (k + 1) = omega arith in
    get_or-remove_above xs (from + at) 0 (from + k) (omega (arith, above)) within ∙ ap (λ n. get_or xs n 0) place)
