use Rattle.std.proofs.Common.{◌≡◌, ℕ, ◌+◌, ◌<◌, ◌≤◌, ◌==◌, zero, suc, Bool, true, false, cond, ◌||◌, List, [], ◌∷◌, length, get_or, sym, ap, subst, ◌∙◌, refl, arith, inl, inr}
use Rattle.std.specs.List.{insert, remove}
use Rattle.std.specs.List.Sorted.{IsBinarySearchResult, IsStrictlyIncreasing}
use Rattle.std.proofs.lemmas.Bool.Decides.{nat_tests}
use Rattle.std.proofs.lemmas.Bool.{cases_lt, cases_order}
use Rattle.std.proofs.lemmas.List.Sorted.{searched}
use Rattle.std.specs.Ordering.{nat_cmp}
use Rattle.std.specs.Prelude.{Result, Ok, Err}
use Rattle.number_maps.specs.Keys.{by_key}
use Rattle.ascending_numbers.specs.Numbers.{IsListed, IsPlaceOf, is_in}

-- Numbers that rise.

-- each is greater than the one before, and the first isn't below a number
abbrev pub Rises : ℕ → List ℕ → Type 0
Rises k [] = Unit {0}
Rises k (x ∷ xs) = (k ≤ x) × Rises (suc x) xs

pub same_is : (n q : ℕ) → n ≡ q → (n == q) ≡ true
same_is n q h = grind (arith, nat_tests)

pub other_is : (n q : ℕ) → (n ≡ q → ⊥) → (n == q) ≡ false
other_is n q h = by_test (n == q) refl
  where
    by_test : (b : Bool) → (n == q) ≡ b → b ≡ false
    by_test true e = absurd (h (grind (arith, nat_tests)))
    by_test false e = refl

pub lower : (j k : ℕ) (xs : List ℕ) → j ≤ k → Rises k xs → Rises j xs
lower j k [] le h = tt
lower j k (x ∷ xs) le h = (omega (arith, h.0), h.1)

pub none_below : (k : ℕ) (xs : List ℕ) (q : ℕ) → Rises k xs → q < k → is_in xs q ≡ false
none_below k [] q h below = refl
none_below k (x ∷ xs) q h below =
    ap (λ b. b || is_in xs q) (other_is x q (λ e. absurd (omega (arith, h.0)))) ∙ none_below (suc x) xs q h.1 (omega (arith, h.0))

pub rises_from : (k : ℕ) (xs : List ℕ) → IsStrictlyIncreasing xs → k ≤ get_or xs 0 k → Rises k xs
rises_from k [] h low = tt
rises_from k (x ∷ []) h low = (low, tt)
rises_from k (x ∷ y ∷ ys) h low = (
  low,
  rises_from (suc x) (y ∷ ys) (λ j below.
      let next : suc j + 1 ≡ suc (j + 1) = omega arith in
      subst (λ n. get_or (x ∷ y ∷ ys) (suc j) 0 < get_or (x ∷ y ∷ ys) n 0) next (h (suc j) (omega arith))) (omega (arith, h 0 (omega arith))),
)

pub rises : (xs : List ℕ) → IsStrictlyIncreasing xs → Rises 0 xs
rises xs h = rises_from 0 xs h (omega arith)

pub increases : (k : ℕ) (xs : List ℕ) → Rises k xs → IsStrictlyIncreasing xs
increases k [] h j below = absurd (omega arith)
increases k (x ∷ []) h j below = absurd (omega arith)
increases k (x ∷ y ∷ ys) h zero below = omega (arith, h.1.0)
increases k (x ∷ y ∷ ys) h (suc j) below =
    let next : suc (j + 1) ≡ suc j + 1 = omega arith in
    subst (λ n. get_or (x ∷ y ∷ ys) (suc j) 0 < get_or (x ∷ y ∷ ys) n 0) next (increases (suc x) (y ∷ ys) h.1 j (omega arith))

-- each place has a number that isn't below it
at_least : (k : ℕ) (xs : List ℕ) (i : ℕ) → Rises k xs → i < length xs → k ≤ get_or xs i 0
at_least k [] i h below = absurd (omega arith)
at_least k (x ∷ xs) zero h below = h.0
at_least k (x ∷ xs) (suc i) h below = omega (arith, at_least (suc x) xs i h.1 (omega arith), h.0)

pub never_falls : (xs : List ℕ) → Rises 0 xs → (i j : ℕ) → i ≤ j → j < length xs → get_or xs i 0 ≤ get_or xs j 0
never_falls xs h i j le below = by_list 0 xs h i j le below
  where
    by_list : (k : ℕ) (xs : List ℕ) → Rises k xs → (i j : ℕ) → i ≤ j → j < length xs → get_or xs i 0 ≤ get_or xs j 0
    by_list k [] h i j le below = absurd (omega arith)
    by_list k (x ∷ xs) h zero zero le below = omega arith
    by_list k (x ∷ xs) h zero (suc j) le below = omega (arith, at_least (suc x) xs j h.1 (omega arith))
    by_list k (x ∷ xs) h (suc i) zero le below = absurd (omega arith)
    by_list k (x ∷ xs) h (suc i) (suc j) le below = by_list (suc x) xs h.1 i j (omega arith) (omega arith)

-- one more in its place
pub rises_insert : (k : ℕ) (xs : List ℕ) (i p : ℕ) → Rises k xs → k ≤ p → i ≤ length xs
    → ((j : ℕ) → j < i → get_or xs j 0 < p) → ((j : ℕ) → i ≤ j → j < length xs → p < get_or xs j 0) → Rises k (insert xs i p)
rises_insert k [] zero p h low within before after = (low, tt)
rises_insert k [] (suc i) p h low within before after = absurd (omega arith)
rises_insert k (x ∷ xs) zero p h low within before after = (low, (omega (arith, after 0 (omega arith) (omega arith)), h.1))
rises_insert k (x ∷ xs) (suc i) p h low within before after = (
  h.0,
  rises_insert (suc x) xs i p h.1 (omega (arith, before 0 (omega arith))) (omega arith)
      (λ j below. before (suc j) (omega arith)) (λ j from below. after (suc j) (omega arith) (omega arith)),
)

swapped : (a b c : Bool) → (a || (b || c)) ≡ (b || (a || c))
swapped true true c = refl
swapped true false c = refl
swapped false b c = refl

in_insert : (xs : List ℕ) (i p q : ℕ) → i ≤ length xs → is_in (insert xs i p) q ≡ ((p == q) || is_in xs q)
in_insert [] zero p q within = refl
in_insert [] (suc i) p q within = absurd (omega arith)
in_insert (x ∷ xs) zero p q within = refl
in_insert (x ∷ xs) (suc i) p q within =
    ap (λ b. (x == q) || b) (in_insert xs i p q (omega arith)) ∙ swapped (x == q) (p == q) (is_in xs q)

-- one fewer
pub rises_remove : (k : ℕ) (xs : List ℕ) (i : ℕ) → Rises k xs → i < length xs → Rises k (remove xs i)
rises_remove k [] i h within = absurd (omega arith)
rises_remove k (x ∷ xs) zero h within = lower k (suc x) xs (omega (arith, h.0)) h.1
rises_remove k (x ∷ xs) (suc i) h within = (h.0, rises_remove (suc x) xs i h.1 (omega arith))

in_remove : (k : ℕ) (xs : List ℕ) (i p q : ℕ) → Rises k xs → i < length xs → get_or xs i 0 ≡ p → is_in (remove xs i) q ≡ cond (p == q) false (is_in xs q)
in_remove k [] i p q h within is = absurd (omega arith)
in_remove k (x ∷ xs) zero p q h within is = by_key p q
    (λ same. none_below (suc x) xs q h.1 (omega (arith, is, same)) ∙ sym (ap (λ b. cond b false (is_in (x ∷ xs) q)) (same_is p q same)))
    (λ other. sym (ap (λ b. b || is_in xs q) (other_is x q (λ e. other (sym is ∙ e)))) ∙ sym (ap (λ b. cond b false (is_in (x ∷ xs) q)) (other_is p q other)))
in_remove k (x ∷ xs) (suc i) p q h within is = ap (λ b. (x == q) || b) (in_remove (suc x) xs i p q h.1 (omega arith) is) ∙ by_key p q
    (λ same. ap (λ b. (x == q) || cond b false (is_in xs q)) (same_is p q same)
    ∙ ap (λ b. b || false) (other_is x q (λ e. absurd (omega (arith, at_least (suc x) xs i h.1 (omega arith), is, same))))
    ∙ sym (ap (λ b. cond b false (is_in (x ∷ xs) q)) (same_is p q same)))
    (λ other. ap (λ b. (x == q) || cond b false (is_in xs q)) (other_is p q other) ∙ sym (ap (λ b. cond b false (is_in (x ∷ xs) q)) (other_is p q other)))

-- a number that stands at no place, and one that stands at one
pub not_in : (xs : List ℕ) (p : ℕ) → ((j : ℕ) → j < length xs → get_or xs j 0 ≡ p → ⊥) → is_in xs p ≡ false
not_in [] p h = refl
not_in (x ∷ xs) p h = ap (λ b. b || is_in xs p) (other_is x p (h 0 (omega arith))) ∙ not_in xs p (λ j below. h (suc j) (omega arith))

later : (b c : Bool) → c ≡ true → (b || c) ≡ true
later true c h = refl
later false c h = h

pub found_in : (xs : List ℕ) (i p : ℕ) → i < length xs → get_or xs i 0 ≡ p → is_in xs p ≡ true
found_in [] i p within is = absurd (omega arith)
found_in (x ∷ xs) zero p within is = ap (λ b. b || is_in xs p) (same_is x p is)
found_in (x ∷ xs) (suc i) p within is = later (x == p) (is_in xs p) (found_in xs i p (omega arith) is)

either_true : (b c : Bool) → b ≡ true → (b || c) ≡ true
either_true true c h = refl
either_true false c h = cc

-- numbers that rise and are below another aren't more than that
pub few : (k n : ℕ) (xs : List ℕ) → Rises k xs → k ≤ n → ((q : ℕ) → is_in xs q ≡ true → q < n) → k + length xs ≤ n
few k n [] h low below = omega arith
few k n (x ∷ xs) h low below =
    let small : x < n = below x (ap (λ b. b || is_in xs x) (same_is x x refl)) in
    omega (arith, h.0, few (suc x) n xs h.1 (omega (arith, small)) (λ q is. below q (later (x == q) (is_in xs q) is)))

-- and fewer where one more is below it
pub fewer : (k n p : ℕ) (xs : List ℕ) → Rises k xs → k ≤ p → p < n → is_in xs p ≡ false → ((q : ℕ) → is_in xs q ≡ true → q < n) → k + length xs < n
fewer k n p [] h low small absent below = omega arith
fewer k n p (x ∷ xs) h low small absent below = elim (cases_order x p) [
  | inl e ↦ absurd (let here = either_true (x == p) (is_in xs p) (same_is x p e) in cc)
  | inr (inl less) ↦ omega (arith, h.0, fewer (suc x) n p xs h.1 less small (second (x == p) (is_in xs p) absent) (λ q is. below q (later (x == q) (is_in xs q) is)))
  | inr (inr more) ↦ omega (arith, h.0, few (suc x) n xs h.1 (omega (arith, below x (either_true (x == x) (is_in xs x) (same_is x x refl)))) (λ q is. below q (later (x == q) (is_in xs q) is)))
]
  where
    second : (b c : Bool) → (b || c) ≡ false → c ≡ false
    second true c h = cc
    second false c h = h

-- numbers that rise are told by which they are
not_less : (x y : ℕ) (xs ys : List ℕ) → Rises (suc y) ys → is_in (x ∷ xs) x ≡ is_in (y ∷ ys) x → x < y → ⊥
not_less x y xs ys g same less =
    let here = either_true (x == x) (is_in xs x) (same_is x x refl) in
    let absent = none_below y (y ∷ ys) x (omega arith, g) less in cc

same_tails : (b c d : Bool) → (b || c) ≡ (b || d) → (b ≡ true → c ≡ d) → c ≡ d
same_tails true c d h both = both refl
same_tails false c d h both = h

pub same_rising : (k : ℕ) (xs ys : List ℕ) → Rises k xs → Rises k ys → ((q : ℕ) → is_in xs q ≡ is_in ys q) → xs ≡ ys
same_rising k [] [] h g same = refl
same_rising k [] (y ∷ ys) h g same = absurd (let at = same y ∙ either_true (y == y) (is_in ys y) (same_is y y refl) in cc)
same_rising k (x ∷ xs) [] h g same = absurd (let at = sym (same x) ∙ either_true (x == x) (is_in xs x) (same_is x x refl) in cc)
same_rising k (x ∷ xs) (y ∷ ys) h g same =
    let heads : x ≡ y = elim (cases_order x y) [
      | inl e ↦ e
      | inr (inl less) ↦ absurd (not_less x y xs ys g.1 (same x) less)
      | inr (inr more) ↦ absurd (not_less y x ys xs h.1 (sym (same y)) more)
    ] in
    let rest : Rises (suc x) ys = subst (λ n. Rises (suc n) ys) (sym heads) g.1 in
    λ i. heads i ∷ same_rising (suc x) xs ys h.1 rest (λ q. same_tails (x == q) (is_in xs q) (is_in ys q)
    (same q ∙ ap (λ n. (n == q) || is_in ys q) (sym heads))
    (λ e. let below : q < suc x = grind (arith, nat_tests) in
    none_below (suc x) xs q h.1 below ∙ sym (none_below (suc x) ys q rest below))) i

-- what a search found, and what it didn't find
pub searched_place : (xs : List ℕ) (p : ℕ) (r : Result ℕ ℕ) → IsStrictlyIncreasing xs → IsBinarySearchResult (λ y. nat_cmp y p) xs r → IsPlaceOf xs p r
searched_place xs p (Ok i) up found = searched xs p (Ok i) found (never_falls xs (rises xs up))
searched_place xs p (Err i) up found = searched xs p (Err i) found (never_falls xs (rises xs up))

pub not_there_yet : (xs : List ℕ) (i p : ℕ) → IsPlaceOf xs p (Err i) → is_in xs p ≡ false
not_there_yet xs i p at =
    not_in xs p (λ j below is. elim (cases_lt j i) [
      | inl less ↦ absurd (omega (arith, at.1 j less, is))
      | inr more ↦ absurd (omega (arith, at.2 j more below, is))
    ])

pub put_in_place : (xs : List ℕ) (i p : ℕ) → IsStrictlyIncreasing xs → IsPlaceOf xs p (Err i) → IsStrictlyIncreasing (insert xs i p)
put_in_place xs i p up at = increases 0 (insert xs i p) (rises_insert 0 xs i p (rises xs up) (omega arith) at.0 at.1 at.2)

-- a number put in its place, and one taken out of it
pub joined : (xs : List ℕ) (i p : ℕ) → i ≤ length xs → IsListed p true xs (insert xs i p)
joined xs i p within = record {
  here = in_insert xs i p p within ∙ ap (λ b. b || is_in xs p) (same_is p p refl);
  others = λ q other. in_insert xs i p q within ∙ ap (λ b. b || is_in xs q) (other_is p q (λ same. other (sym same)));
}

pub left_out : (xs : List ℕ) (i p : ℕ) → IsStrictlyIncreasing xs → i < length xs → get_or xs i 0 ≡ p → IsListed p false xs (remove xs i)
left_out xs i p up within is = record {
  here = in_remove 0 xs i p p (rises xs up) within is ∙ ap (λ b. cond b false (is_in xs p)) (same_is p p refl);
  others = λ q other. in_remove 0 xs i p q (rises xs up) within is ∙ ap (λ b. cond b false (is_in xs q)) (other_is p q (λ same. other (sym same)));
}
