use Rattle.std.proofs.Common.{◌≡◌, ℕ, ◌+◌, ◌-◌, ◌<◌, ◌≤◌, ◌⊎◌, inl, inr, List, [], ◌++◌, length, get_or, take, drop, set, sym, ap, ◌∙◌, arith}
use Rattle.std.proofs.lemmas.List.{get_or-append_right, get_or-drop, get_or-take, get_or_append_left, length-append, length-take-le, length-drop}
use Rattle.std.proofs.lemmas.List.Edits.{paste_more, paste_none}
use Rattle.line_store.specs.Lines.{line_of, with_copied, with_put}

-- Lines that were put over others.

module _ (lines : List (List ℕ)) (to : ℕ) (given : List (List ℕ)) (n : ℕ) (source : n ≤ length given) (target : to + n ≤ length lines) where
  front : length (take to lines) ≡ to
  front = length-take-le to lines (omega (arith, target))

  middle : length (take n given) ≡ n
  middle = length-take-le n given source

  both : length (take to lines ++ take n given) ≡ to + n
  both = omega (arith, length-append (take to lines) (take n given), front, middle)

  pub put_in : (i : ℕ) → i < n → line_of (with_put lines to given n) (to + i) ≡ line_of given i
  put_in i h =
      get_or_append_left (take to lines ++ take n given) (drop (to + n) lines) [] (to + i) (omega (arith, both, h))
      ∙ get_or-append_right (take to lines) (take n given) to (to + i) [] front (omega arith)
      ∙ (let e : to + i - to ≡ i = omega arith in ap (λ j. get_or (take n given) j []) e)
      ∙ get_or-take n given i [] h

  pub put_out : (at : ℕ) → (at < to) ⊎ (to + n ≤ at) → line_of (with_put lines to given n) at ≡ line_of lines at
  put_out at (inl h) =
      get_or_append_left (take to lines ++ take n given) (drop (to + n) lines) [] at (omega (arith, both, h))
      ∙ get_or_append_left (take to lines) (take n given) [] at (omega (arith, front, h))
      ∙ get_or-take to lines at [] h
  put_out at (inr h) =
      get_or-append_right (take to lines ++ take n given) (drop (to + n) lines) (to + n) at [] both h
      ∙ get_or-drop (to + n) lines (at - (to + n)) []
      ∙ (let e : to + n + (at - (to + n)) ≡ at = omega (arith, h) in ap (λ j. get_or lines j []) e)

-- Lines that were copied to another range.

pub copied_in : (lines : List (List ℕ)) (from to n i : ℕ) → from + n ≤ length lines → to + n ≤ length lines → i < n → line_of (with_copied lines from to n) (to + i) ≡ line_of lines (from + i)
copied_in lines from to n i source target h = put_in lines to (drop from lines) n (omega (arith, source, length-drop from lines)) target i h ∙ get_or-drop from lines i []

pub copied_out : (lines : List (List ℕ)) (from to n at : ℕ) → from + n ≤ length lines → to + n ≤ length lines → (at < to) ⊎ (to + n ≤ at) → line_of (with_copied lines from to n) at ≡ line_of lines at
copied_out lines from to n at source target out = put_out lines to (drop from lines) n (omega (arith, source, length-drop from lines)) target at out

-- one more of them

pub more_copied : (lines : List (List ℕ)) (from to i n : ℕ) → i < n → from + n ≤ length lines → to + n ≤ length lines → (from + n ≤ to) ⊎ (to + n ≤ from)
    → set (with_copied lines from to i) (to + i) (line_of (with_copied lines from to i) (from + i)) ≡ with_copied lines from to (i + 1)
more_copied lines from to i n more source target apart =
    ap (set (with_copied lines from to i) (to + i)) (copied_out lines from to i (from + i) (omega (arith, more, source)) (omega (arith, more, target)) (outside apart) ∙ sym (get_or-drop from lines i []))
    ∙ paste_more lines to (drop from lines) i [] (omega (arith, more, target)) (omega (arith, more, source, length-drop from lines))
  where
    outside : (from + n ≤ to) ⊎ (to + n ≤ from) → (from + i < to) ⊎ (to + i ≤ from + i)
    outside (inl h) = inl (omega (arith, more, h))
    outside (inr h) = inr (omega (arith, more, h))

-- a single line

pub one_copied : (lines : List (List ℕ)) (from to : ℕ) → from < length lines → to < length lines → with_copied lines from to 1 ≡ set lines to (line_of lines from)
one_copied lines from to source target =
    let given = drop from lines in
    let first : from + 0 ≡ from = omega arith in
    let place : to + 0 ≡ to = omega arith in
    sym (ap (λ l. set l (to + 0) (get_or given 0 [])) (paste_none lines to given) ∙ paste_more lines to given 0 [] (omega (arith, target)) (omega (arith, source, length-drop from lines)))
    ∙ ap (λ n. set lines n (get_or given 0 [])) place
    ∙ ap (set lines to) (get_or-drop from lines 0 [] ∙ ap (line_of lines) first)
