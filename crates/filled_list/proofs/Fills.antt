use Rattle.std.proofs.Common.{◌≡◌, ℕ, ◌+◌, ◌-◌, ◌<◌, ◌≤◌, inl, inr, List, [], ◌∷◌, ◌++◌, length, get_or, slice_set, replicate, max, subst, sym, ap, ◌∙◌, refl, arith}
use Rattle.std.specs.Prelude.{◌⊎◌}
use Rattle.std.proofs.lemmas.Bool.{cases_lt}
use Rattle.std.proofs.lemmas.List.{append_assoc, length-append, length-replicate, length-set, replicate-append-replicate, set-append_left, get_or_append_left, get_or-append_right, get_or-replicate, get_or_past}
use Rattle.std.specs.List.{CopiedTo, SameBelow, SameFrom}
use Rattle.filled_list.specs.Copied.{AreCopied}

-- Lists of which all elements behind some are alike.

module _ {X : Type 0} where
  -- the whole list
  abbrev whole : List X → X → ℕ → List X
  whole items rest n = items ++ replicate (n - length items) rest

  pub sized : (items : List X) (rest : X) (n : ℕ) → length items ≤ n → length (whole items rest n) ≡ n
  sized items rest n le =
      let sum = length-append items (replicate (n - length items) rest) in
      let tail = length-replicate (n - length items) rest in
      omega (arith, sum, tail, le)

  -- one more of those that are alike
  pub grown : (base items new : List X) (rest : X) (at k : ℕ) → items ≡ base ++ replicate k rest → k ≤ at + 1 - length base → length items ≤ at
      → new ≡ items ++ rest ∷ []
      → (x : ℕ) × (new ≡ base ++ replicate x rest) × (x ≤ at + 1 - length base)
  grown base items new rest at k is le short more = (
    k + 1,
    more
        ∙ ap (λ (xs : List X). xs ++ rest ∷ []) is
        ∙ append_assoc base (replicate k rest) (rest ∷ [])
        ∙ ap (λ (xs : List X). base ++ xs) (replicate-append-replicate k 1 rest),
    omega (arith, ap length is, length-append base (replicate k rest), length-replicate k rest, le, short),
  )

  -- an element that is kept
  pub kept_at : (f items : List X) (rest x : X) (n at : ℕ) → whole items rest n ≡ f → at < length items → x ≡ get_or items at x → x ≡ get_or f at x
  kept_at f items rest x n at same inside is =
      is ∙ sym (get_or_append_left items (replicate (n - length items) rest) x at inside) ∙ ap (λ (xs : List X). get_or xs at x) same

  -- one of those that are alike
  pub rest_at : (f items : List X) (rest : X) (n at : ℕ) → whole items rest n ≡ f → length items ≤ at → rest ≡ get_or f at rest
  rest_at f items rest n at same behind =
      sym (by (cases_lt (at - length items) (n - length items)))
      ∙ sym (get_or-append_right items (replicate (n - length items) rest) (length items) at rest refl behind)
      ∙ ap (λ (xs : List X). get_or xs at rest) same
    where
      by : (at - length items < n - length items) ⊎ (n - length items ≤ at - length items)
          → get_or (replicate (n - length items) rest) (at - length items) rest ≡ rest
      by (inl inside) = get_or-replicate (n - length items) (at - length items) rest rest inside
      by (inr past) =
          get_or_past (replicate (n - length items) rest) (at - length items) rest (omega (arith, length-replicate (n - length items) rest, past))

  -- a list that is long enough for a place stands for the same
  pub reached : (items long : List X) (rest : X) (n at : ℕ) → length items ≤ n → at < n → long ≡ items ++ replicate (at + 1 - length items) rest
      → (length long ≤ n) × (at < length long) × (whole long rest n ≡ whole items rest n)
  reached items long rest n at le inside is = (
    omega (arith, size, le, inside),
    omega (arith, size),
    ap (λ (xs : List X). xs ++ replicate (n - length long) rest) is
        ∙ append_assoc items (replicate (at + 1 - length items) rest) (replicate (n - length long) rest)
        ∙ ap (λ (xs : List X). items ++ xs) (replicate-append-replicate (at + 1 - length items) (n - length long) rest)
        ∙ ap (λ (k : ℕ). items ++ replicate k rest) count,
  )
    where
      size : length long ≡ length items + (at + 1 - length items)
      size =
          ap length is ∙ length-append items (replicate (at + 1 - length items) rest)
          ∙ ap (λ k. length items + k) (length-replicate (at + 1 - length items) rest)

      count : at + 1 - length items + (n - length long) ≡ n - length items
      count = omega (arith, size, le, inside)

  -- an element that is written
  pub set_at : (f items long : List X) (rest x : X) (n at : ℕ) → whole items rest n ≡ f → length items ≤ n → at < length f
      → long ≡ items ++ replicate (at + 1 - length items) rest
      → whole (slice_set long at x) rest n ≡ slice_set f at x
  set_at f items long rest x n at same le within is =
      let inside : at < n = omega (arith, within, ap length same, sized items rest n le) in
      let long_is = reached items long rest n at le inside is in
      ap (λ k. slice_set long at x ++ replicate (n - k) rest) (length-set long at x)
      ∙ sym (set-append_left long (replicate (n - length long) rest) at x long_is.1)
      ∙ ap (λ (xs : List X). slice_set xs at x) (long_is.2 ∙ same)

  -- one that was kept before
  pub set_kept : (f items : List X) (rest x : X) (n at : ℕ) → whole items rest n ≡ f → at < length items
      → whole (slice_set items at x) rest n ≡ slice_set f at x
  set_kept f items rest x n at same inside =
      ap (λ k. slice_set items at x ++ replicate (n - k) rest) (length-set items at x)
      ∙ sym (set-append_left items (replicate (n - length items) rest) at x inside)
      ∙ ap (λ (xs : List X). slice_set xs at x) same

  -- a block that is written, of those that are kept
  pub copied_kept : (f items new : List X) (rest : X) (n from to k : ℕ) → whole items rest n ≡ f → from + k ≤ length items → to + k ≤ length items
      → AreCopied items new from to k → AreCopied f (whole new rest n) from to k
  copied_kept f items new rest n from to k same source target copied =
      subst (λ (xs : List X). AreCopied xs (whole new rest n) from to k) same (
      record {
        size = length-append new (replicate (n - length new) rest) ∙ ap (λ m. m + length (replicate (n - m) rest)) copied.size
            ∙ sym (length-append items (replicate (n - length items) rest));
        copied = λ i d low less.
            before i d (omega (arith, less, target, copied.size))
            ∙ copied.copied i d low less
            ∙ sym (get_or_append_left items (replicate (n - length items) rest) d (from + (i - to)) (omega (arith, low, less, source)));
        below = λ i d less. stays i d (copied.below i d less);
        above = λ i d past. stays i d (copied.above i d past);
      }
      )
    where
      before : (i : ℕ) (d : X) → i < length new → get_or (whole new rest n) i d ≡ get_or new i d
      before i d inside = get_or_append_left new (replicate (n - length new) rest) d i inside

      stays : (i : ℕ) (d : X) → get_or new i d ≡ get_or items i d → get_or (whole new rest n) i d ≡ get_or (whole items rest n) i d
      stays i d is = by (cases_lt i (length items))
        where
          by : (i < length items) ⊎ (length items ≤ i) → get_or (whole new rest n) i d ≡ get_or (whole items rest n) i d
          by (inl inside) =
              before i d (omega (arith, inside, copied.size)) ∙ is
              ∙ sym (get_or_append_left items (replicate (n - length items) rest) d i inside)
          by (inr past) =
              get_or-append_right new (replicate (n - length new) rest) (length new) i d refl (omega (arith, past, copied.size))
              ∙ ap (λ m. get_or (replicate (n - m) rest) (i - m) d) copied.size
              ∙ sym (get_or-append_right items (replicate (n - length items) rest) (length items) i d refl past)

  -- and of those that are kept once as many as needed are
  pub copied_at : (f items long new : List X) (rest : X) (n from to k end : ℕ) → whole items rest n ≡ f → length items ≤ n → 0 < k
      → from + k ≤ length f → to + k ≤ length f → end ≡ max from to
      → long ≡ items ++ replicate (end + k - 1 + 1 - length items) rest
      → length new ≡ length long
      → CopiedTo long new from to (from + k - from) × SameBelow long new to × SameFrom long new (to + (from + k - from))
      → AreCopied f (whole new rest n) from to k
  copied_at f items long new rest n from to k end same le some source target ends is size copied =
      let whole_is : length f ≡ n = sym (ap length same) ∙ sized items rest n le in
      let inside : end + k - 1 < n = omega (arith, source, target, whole_is, ends, some) in
      let long_is = reached items long rest n (end + k - 1) le inside is in
      let count : from + k - from ≡ k = omega arith in
      copied_kept f long new rest n from to k (long_is.2 ∙ same) (omega (arith, long_is.1, ends)) (omega (arith, long_is.1, ends)) (
      record {
        size = size;
        copied = λ i d low less. copied.0 i d low (omega (arith, less));
        below = λ i d less. copied.1 i d less;
        above = λ i d past. copied.2 i d (omega (arith, past));
      }
      )
