use Rattle.std.proofs.Common.{◌≡◌, ℕ, zero, suc, ◌+◌, ◌<◌, ◌≤◌, ◌⊎◌, inl, inr, Bool, true, false, cond, ◌&&◌, ◌||◌, nat_eq, nat_lt, nat_le, List, [], ◌∷◌, ◌++◌, length, subst, sym, ap, ◌∙◌, refl, arith}
use Rattle.std.specs.Prelude.{filter}
use Rattle.std.specs.List.{range_with_len}
use Rattle.std.proofs.lemmas.Bool.{cases_lt, cases_order, eqb-true, ltb-true, false≢true, lt-ltb, le-ltb, eq-eqb, ne_eqb}
use Rattle.std.proofs.lemmas.Bool.Decides.{nat_tests}
use Rattle.std.proofs.lemmas.List.{append_assoc, append-nil}
use Rattle.std.proofs.lemmas.List.Elements.{filter-append}
use Rattle.overlay_bits.specs.Lines.{below, has_line, Rise}

-- Tests joined with an answer that is known.

pub and_true : (b : Bool) → (b && true) ≡ b
and_true true = refl
and_true false = refl

pub and_false : (b : Bool) → (b && false) ≡ false
and_false true = refl
and_false false = refl

pub or_true : (b : Bool) → (b || true) ≡ true
or_true true = refl
or_true false = refl

pub or_false : (b : Bool) → (b || false) ≡ b
or_false true = refl
or_false false = refl

-- The ascending list of the numbers that pass a test.

-- tests that agree have one list
pub below_same : (t u : ℕ → Bool) (k : ℕ) → ((i : ℕ) → i < k → t i ≡ u i) → below t k ≡ below u k
unfolding below
below_same t u zero h = refl
below_same t u (suc k) h =
    ap (λ xs. xs ++ cond (t k) (k ∷ []) []) (below_same t u k (λ i lt. h i (omega (arith, lt))))
    ∙ ap (λ (b : Bool). below u k ++ cond b (k ∷ []) []) (h k (omega arith))

-- where none passes there is none
pub below_none : (t : ℕ → Bool) (k : ℕ) → ((i : ℕ) → i < k → t i ≡ false) → below t k ≡ []
unfolding below
below_none t zero h = refl
below_none t (suc k) h =
    ap (λ xs. xs ++ cond (t k) (k ∷ []) []) (below_none t k (λ i lt. h i (omega (arith, lt))))
    ∙ ap (λ (b : Bool). [] ++ cond b (k ∷ []) []) (h k (omega arith))

-- those that pass a second test too
pub below_filter : (p t : ℕ → Bool) (k : ℕ) → filter p (below t k) ≡ below (λ i. t i && p i) k
unfolding below
below_filter p t zero = refl
below_filter p t (suc k) =
    filter-append p (below t k) (cond (t k) (k ∷ []) [])
    ∙ ap (λ xs. xs ++ filter p (cond (t k) (k ∷ []) [])) (below_filter p t k)
    ∙ ap (λ xs. below (λ i. t i && p i) k ++ xs) (last (t k))
  where
    last : (b : Bool) → filter p (cond b (k ∷ []) []) ≡ cond (b && p k) (k ∷ []) []
    last true = refl
    last false = refl

-- a number is one of two lists put together
pub has_append : (xs ys : List ℕ) (q : ℕ) → has_line (xs ++ ys) q ≡ (has_line xs q || has_line ys q)
has_append [] ys q = refl
has_append (x ∷ xs) ys q = at (nat_eq x q) (has_append xs ys q)
  where
    at : (b : Bool) → has_line (xs ++ ys) q ≡ (has_line xs q || has_line ys q)
        → (b || has_line (xs ++ ys) q) ≡ ((b || has_line xs q) || has_line ys q)
    at true h = refl
    at false h = h

-- it is one of those that pass a test where it passes it, and is below the bound
pub has_below : (t : ℕ → Bool) (k q : ℕ) → has_line (below t k) q ≡ (nat_lt q k && t q)
unfolding below
has_below t zero q = ap (λ (b : Bool). b && t q) (sym (le-ltb q 0 (omega arith)))
has_below t (suc k) q =
    has_append (below t k) (cond (t k) (k ∷ []) []) q
    ∙ ap (λ (b : Bool). b || has_line (cond (t k) (k ∷ []) []) q) (has_below t k q)
    ∙ at (cases_order q k)
  where
    one : (b : Bool) → has_line (cond b (k ∷ []) []) q ≡ (b && nat_eq k q)
    one true = grind arith
    one false = refl

    here : (x : Bool) → ((false && x) || (x && true)) ≡ (true && x)
    here true = refl
    here false = refl

    before : (x y : Bool) → ((true && x) || (y && false)) ≡ (true && x)
    before true y = refl
    before false true = refl
    before false false = refl

    behind : (x y : Bool) → ((false && x) || (y && false)) ≡ (false && x)
    behind x true = refl
    behind x false = refl

    at : (q ≡ k) ⊎ ((q < k) ⊎ (k < q)) → ((nat_lt q k && t q) || has_line (cond (t k) (k ∷ []) []) q) ≡ (nat_lt q (suc k) && t q)
    at (inl same) =
        let e = one (t k) ∙ (λ i. t (sym same i) && eq-eqb k q (sym same) i) in
        (λ i. (le-ltb q k (omega (arith, same)) i && t q) || e i) ∙ here (t q) ∙ (λ i. sym (lt-ltb q (suc k) (omega (arith, same))) i && t q)
    at (inr (inl less)) =
        let e = one (t k) ∙ (λ i. t k && ne_eqb k q (λ same. omega (arith, less, same)) i) in
        (λ i. (lt-ltb q k less i && t q) || e i) ∙ before (t q) (t k) ∙ (λ i. sym (lt-ltb q (suc k) (omega (arith, less))) i && t q)
    at (inr (inr more)) =
        let e = one (t k) ∙ (λ i. t k && ne_eqb k q (λ same. omega (arith, more, same)) i) in
        (λ i. (le-ltb q k (omega (arith, more)) i && t q) || e i) ∙ behind (t q) (t k) ∙ (λ i. sym (le-ltb q (suc k) (omega (arith, more))) i && t q)

-- Numbers that rise.

rise_more : (from : ℕ) (xs : List ℕ) (end : ℕ) → Rise from xs end → Rise from xs (end + 1)
rise_more from [] end h = omega (arith, h)
rise_more from (x ∷ xs) end h = (h.0, rise_more (x + 1) xs end h.1)

rise_one : (from : ℕ) (xs : List ℕ) (end : ℕ) → Rise from xs end → Rise from (xs ++ end ∷ []) (end + 1)
rise_one from [] end h = (h, omega arith)
rise_one from (x ∷ xs) end h = (h.0, rise_one (x + 1) xs end h.1)

pub rise_below : (t : ℕ → Bool) (k : ℕ) → Rise 0 (below t k) k
unfolding below
rise_below t zero = omega arith
rise_below t (suc k) = at (t k) (rise_below t k)
  where
    next : k + 1 ≡ suc k
    next = omega arith

    at : (b : Bool) → Rise 0 (below t k) k → Rise 0 (below t k ++ cond b (k ∷ []) []) (suc k)
    at true h = subst (Rise 0 (below t k ++ k ∷ [])) next (rise_one 0 (below t k) k h)
    at false h =
        subst (λ xs. Rise 0 xs (suc k)) (sym (append-nil (below t k))) (subst (Rise 0 (below t k)) next (rise_more 0 (below t k) k h))

-- where they begin and end
pub rise_bounds : (from : ℕ) (xs : List ℕ) (end : ℕ) → Rise from xs end → from + length xs ≤ end
rise_bounds from [] end h = omega (arith, h)
rise_bounds from (x ∷ xs) end h = omega (arith, h.0, rise_bounds (x + 1) xs end h.1)

-- none of them is below the first bound
pub rise_lacks : (from : ℕ) (xs : List ℕ) (end q : ℕ) → Rise from xs end → q < from → has_line xs q ≡ false
rise_lacks from [] end q h lt = refl
rise_lacks from (x ∷ xs) end q h lt =
    (λ i. ne_eqb x q (λ same. omega (arith, h.0, lt, same)) i || has_line xs q) ∙ rise_lacks (x + 1) xs end q h.1 (omega (arith, h.0, lt))

-- all of them are below the second
pub rise_inside : (from : ℕ) (xs : List ℕ) (end q : ℕ) → Rise from xs end → has_line xs q ≡ true → q < end
rise_inside from [] end q h is = absurd (false≢true is)
rise_inside from (x ∷ xs) end q h is = at (nat_eq x q) refl is (rise_inside (x + 1) xs end q h.1)
  where
    at : (b : Bool) → nat_eq x q ≡ b → (b || has_line xs q) ≡ true → (has_line xs q ≡ true → q < end) → q < end
    at true e is rest = omega (arith, eqb-true x q e, rise_bounds (x + 1) xs end h.1)
    at false e is rest = rest is

-- two such lists with the same members are equal
pub rise_same : (from to : ℕ) (xs ys : List ℕ) (end : ℕ) → Rise from xs end → Rise to ys end → ((q : ℕ) → has_line xs q ≡ has_line ys q)
    → xs ≡ ys
rise_same from to [] [] end h g same = refl
rise_same from to [] (y ∷ ys) end h g same = absurd (false≢true (same y ∙ (λ i. eq-eqb y y refl i || has_line ys y)))
rise_same from to (x ∷ xs) [] end h g same = absurd (false≢true (sym (same x) ∙ (λ i. eq-eqb x x refl i || has_line xs x)))
rise_same from to (x ∷ xs) (y ∷ ys) end h g same = at (cases_order x y) (rise_same (x + 1) (y + 1) xs ys end h.1 g.1)
  where
    rest : x ≡ y → (q : ℕ) → has_line xs q ≡ has_line ys q
    rest e q = by (cases_lt q (x + 1))
      where
        by : (q < x + 1) ⊎ (x + 1 ≤ q) → has_line xs q ≡ has_line ys q
        by (inl lt) = rise_lacks (x + 1) xs end q h.1 lt ∙ sym (rise_lacks (y + 1) ys end q g.1 (omega (arith, lt, e)))
        by (inr le) =
            (λ i. sym (ne_eqb x q (λ s. omega (arith, le, s))) i || has_line xs q) ∙ same q
            ∙ (λ i. ne_eqb y q (λ s. omega (arith, le, e, s)) i || has_line ys q)

    at : (x ≡ y) ⊎ ((x < y) ⊎ (y < x)) → (((q : ℕ) → has_line xs q ≡ has_line ys q) → xs ≡ ys) → (x ∷ xs) ≡ (y ∷ ys)
    at (inl e) tails = λ i. e i ∷ tails (rest e) i
    at (inr (inl less)) tails =
        let none = rise_lacks y (y ∷ ys) end x (omega arith, g.1) less in
        absurd (false≢true (sym none ∙ sym (same x) ∙ (λ i. eq-eqb x x refl i || has_line xs x)))
    at (inr (inr more)) tails =
        let none = rise_lacks x (x ∷ xs) end y (omega arith, h.1) more in
        absurd (false≢true (sym none ∙ same y ∙ (λ i. eq-eqb y y refl i || has_line ys y)))

-- such a list is what its members pass
pub rise_is : (xs : List ℕ) (end : ℕ) → Rise 0 xs end → xs ≡ below (has_line xs) end
rise_is xs end h = rise_same 0 0 xs (below (has_line xs) end) end h (rise_below (has_line xs) end) same
  where
    at : (q : ℕ) (b : Bool) → has_line xs q ≡ b → b ≡ (nat_lt q end && b)
    at q true e = λ i. sym (lt-ltb q end (rise_inside 0 xs end q h e)) i && true
    at q false e = sym (and_false (nat_lt q end))

    same : (q : ℕ) → has_line xs q ≡ has_line (below (has_line xs) end) q
    same q = at q (has_line xs q) refl ∙ sym (has_below (has_line xs) end q)

-- A list at one of its places: what is before it, whether it is there, and what is behind it.

-- what is before a place
pub below_cut : (t : ℕ → Bool) (line k : ℕ) → line ≤ k → below (λ i. t i && nat_lt i line) k ≡ below t line
unfolding below
below_cut t line zero le = let e : line ≡ 0 = omega (arith, le) in sym (ap (below t) e)
below_cut t line (suc k) le = at (cases_order line (suc k)) (below_cut t line k)
  where
    at : (line ≡ suc k) ⊎ ((line < suc k) ⊎ (suc k < line)) → (line ≤ k → below (λ i. t i && nat_lt i line) k ≡ below t line)
        → below (λ i. t i && nat_lt i line) (suc k) ≡ below t line
    at (inl same) rest =
        below_same (λ i. t i && nat_lt i line) t (suc k) (λ i lt. (λ j. t i && lt-ltb i line (omega (arith, lt, same)) j) ∙ and_true (t i))
        ∙ sym (ap (below t) same)
    at (inr (inl less)) rest =
        ap (λ (b : Bool). below (λ i. t i && nat_lt i line) k ++ cond b (k ∷ []) [])
        ((λ j. t k && le-ltb k line (omega (arith, less)) j) ∙ and_false (t k))
        ∙ append-nil _ ∙ rest (omega (arith, less))
    at (inr (inr more)) rest = absurd (omega (arith, more, le))

-- all of it
pub below_split : (t : ℕ → Bool) (line k : ℕ) → line < k
    → below t k ≡ below t line ++ (cond (t line) (line ∷ []) [] ++ below (λ i. t i && nat_lt line i) k)
unfolding below
below_split t line zero lt = absurd (omega (arith, lt))
below_split t line (suc k) lt = at (cases_order line k) (below_split t line k)
  where
    above : ℕ → List ℕ
    above n = below (λ i. t i && nat_lt line i) n

    at : (line ≡ k) ⊎ ((line < k) ⊎ (k < line)) → (line < k → below t k ≡ below t line ++ (cond (t line) (line ∷ []) [] ++ above k))
        → below t (suc k) ≡ below t line ++ (cond (t line) (line ∷ []) [] ++ above (suc k))
    at (inl same) rest =
        let none = below_none (λ i. t i && nat_lt line i) (suc k)
        (λ i le. (λ j. t i && le-ltb line i (omega (arith, same, le)) j) ∙ and_false (t i)) in
        (λ j. below t (sym same j) ++ cond (t (sym same j)) (sym same j ∷ []) [])
        ∙ ap (λ xs. below t line ++ xs) (sym (append-nil (cond (t line) (line ∷ []) [])) ∙ ap (λ xs. cond (t line) (line ∷ []) [] ++ xs) (sym none))
    at (inr (inl less)) rest =
        let last = ap (λ (b : Bool). cond b (k ∷ []) []) (sym (and_true (t k)) ∙ (λ j. t k && sym (lt-ltb line k less) j)) in
        ap (λ xs. xs ++ cond (t k) (k ∷ []) []) (rest less)
        ∙ append_assoc (below t line) (cond (t line) (line ∷ []) [] ++ above k) (cond (t k) (k ∷ []) [])
        ∙ ap (λ xs. below t line ++ xs) (append_assoc (cond (t line) (line ∷ []) []) (above k) (cond (t k) (k ∷ []) []))
        ∙ ap (λ xs. below t line ++ (cond (t line) (line ∷ []) [] ++ (above k ++ xs))) last
    at (inr (inr more)) rest = absurd (omega (arith, more, lt))

-- Consecutive numbers.

-- whether a number is one of those from one to below another one
abbrev pub is_between : ℕ → ℕ → ℕ → Bool
is_between first end q = nat_le first q && nat_lt q end

rise_range : (a n : ℕ) → Rise a (range_with_len a n) (a + n)
rise_range a zero = omega arith
rise_range a (suc n) =
    let e : a + 1 + n ≡ a + suc n = omega arith in
    (omega arith, subst (Rise (a + 1) (range_with_len (a + 1) n)) e (rise_range (a + 1) n))

pub has_range : (a n q : ℕ) → has_line (range_with_len a n) q ≡ is_between a (a + n) q
has_range a zero q = grind (arith, nat_tests)
has_range a (suc n) q = ap (λ (b : Bool). nat_eq a q || b) (has_range (a + 1) n q) ∙ grind (arith, nat_tests)

-- bounds that are wider
pub rise_wider : (low from : ℕ) (xs : List ℕ) (end high : ℕ) → low ≤ from → end ≤ high → Rise from xs end → Rise low xs high
rise_wider low from [] end high le less h = omega (arith, le, less, h)
rise_wider low from (x ∷ xs) end high le less h = (omega (arith, le, h.0), rise_wider (x + 1) (x + 1) xs end high (omega arith) less h.1)

pub below_range : (first n k : ℕ) → first + n ≤ k → range_with_len first n ≡ below (is_between first (first + n)) k
below_range first n k le =
    rise_same 0 0 _ _ k (rise_wider 0 first (range_with_len first n) (first + n) k (omega arith) le (rise_range first n)) (rise_below _ k)
    (λ q. has_range first n q ∙ at (nat_le first q) (nat_lt q (first + n)) (inside q) ∙ sym (has_below (is_between first (first + n)) k q))
  where
    inside : (q : ℕ) → nat_lt q (first + n) ≡ true → nat_lt q k ≡ true
    inside q h = lt-ltb q k (omega (arith, ltb-true q (first + n) h, le))

    at : {c : Bool} (a b : Bool) → (b ≡ true → c ≡ true) → (a && b) ≡ (c && (a && b))
    at true true h = λ i. sym (h refl) i && true
    at {c = c} true false h = sym (and_false c)
    at {c = c} false b h = sym (and_false c)
