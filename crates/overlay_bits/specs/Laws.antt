use Rattle.std.proofs.Common.{◌≡◌, ℕ, ◌+◌, ◌-◌, ◌<◌, ◌≤◌, ◌⊎◌, inl, inr, Bool, true, false, cond, not, ◌&&◌, ◌||◌, nat_eq, nat_lt, List, [], ◌∷◌, ◌++◌, length, subst, sym, ap, ◌∙◌, refl, arith}
use Rattle.std.specs.Prelude.{filter}
use Rattle.std.proofs.lemmas.Bool.{and_right, cases_order, lt-ltb, le-ltb, eq-eqb, ne_eqb, eqb-true, ltb-true}
use Rattle.std.proofs.lemmas.List.{append-nil, length-append}
use Rattle.std.proofs.lemmas.List.Elements.{filter-append}
use Rattle.sizes.specs.declared.TheConstants.{PAGE_LINES}
use Rattle.overlay_bits.specs.Lines.{below, lines_where, has_line, Rise, AreLines, lines_before, lines_behind, rank_of, with_line, without_line, lines_between, with_lines}
use Rattle.overlay_bits.specs.Below.{and_false, and_true, or_true, below_same, below_filter, below_cut, below_split, has_append, has_below, has_range, is_between, rise_below, rise_bounds, rise_inside, rise_is, rise_same}

-- Laws of sets of lines, for the crates above.

-- Sets.

pub are_rise : (lines : List ℕ) → Rise 0 lines PAGE_LINES → AreLines lines
are_rise lines h =
    record {
      rise = h;
      few = omega (arith, rise_bounds 0 lines PAGE_LINES h);
      inside = λ line is. rise_inside 0 lines PAGE_LINES line h is;
    }

-- the lines that pass a test are a set
pub are_where : (t : ℕ → Bool) → AreLines (lines_where t)
are_where t = are_rise (lines_where t) (rise_below t PAGE_LINES)

pub are_none : AreLines []
are_none = are_rise [] (omega arith)

-- a set is the lines that are its members
pub is_where : (lines : List ℕ) → AreLines lines → lines ≡ lines_where (has_line lines)
is_where lines are = rise_is lines PAGE_LINES are.rise

-- two sets with the same members are equal
pub same_sets : (a b : List ℕ) → AreLines a → AreLines b → ((q : ℕ) → has_line a q ≡ has_line b q) → a ≡ b
same_sets a b one other same = rise_same 0 0 a b PAGE_LINES one.rise other.rise same

-- Members.

-- of those of a list that pass a test
pub has_filter : (p : ℕ → Bool) (xs : List ℕ) (q : ℕ) → has_line (filter p xs) q ≡ (has_line xs q && p q)
has_filter p [] q = refl
has_filter p (x ∷ xs) q = at (p x) refl (nat_eq x q) refl (has_filter p xs q)
  where
    with_x : (e : Bool) → nat_eq x q ≡ e → p x ≡ true → has_line (filter p xs) q ≡ (has_line xs q && p q)
        → (e || has_line (filter p xs) q) ≡ ((e || has_line xs q) && p q)
    with_x true e is h = sym is ∙ ap p (eqb-true x q e)
    with_x false e is h = h

    without_x : (e : Bool) → nat_eq x q ≡ e → p x ≡ false → has_line (filter p xs) q ≡ (has_line xs q && p q)
        → has_line (filter p xs) q ≡ ((e || has_line xs q) && p q)
    without_x true e is h = h ∙ and_right (has_line xs q) (p q) (sym (ap p (eqb-true x q e)) ∙ is) ∙ sym (sym (ap p (eqb-true x q e)) ∙ is)
    without_x false e is h = h

    at : (b : Bool) → p x ≡ b → (e : Bool) → nat_eq x q ≡ e → has_line (filter p xs) q ≡ (has_line xs q && p q)
        → has_line (cond b (x ∷ filter p xs) (filter p xs)) q ≡ (has_line (x ∷ xs) q && p q)
    at true is e same h = (λ i. same i || has_line (filter p xs) q) ∙ with_x e same is h ∙ (λ i. (sym same i || has_line xs q) && p q)
    at false is e same h = without_x e same is h ∙ (λ i. (sym same i || has_line xs q) && p q)

-- a number is a line, or before it, or behind it
by_place : (P : Bool → Bool → Bool → Type 0) (q line : ℕ) → P false false true → P true false false → P false true false
    → P (nat_lt q line) (nat_lt line q) (nat_eq line q)
by_place P q line here before behind = at (cases_order q line)
  where
    by : (b c e : Bool) → nat_lt q line ≡ b → nat_lt line q ≡ c → nat_eq line q ≡ e → P b c e → P (nat_lt q line) (nat_lt line q) (nat_eq line q)
    by b c e l m s h = subst (λ x. P x (nat_lt line q) (nat_eq line q)) (sym l) (subst (λ x. P b x (nat_eq line q)) (sym m) (subst (P b c) (sym s) h))

    at : (q ≡ line) ⊎ ((q < line) ⊎ (line < q)) → P (nat_lt q line) (nat_lt line q) (nat_eq line q)
    at (inl e) = by false false true (le-ltb q line (omega (arith, e))) (le-ltb line q (omega (arith, e))) (eq-eqb line q (sym e)) here
    at (inr (inl less)) =
        by true false false (lt-ltb q line less) (le-ltb line q (omega (arith, less))) (ne_eqb line q (λ s. omega (arith, less, s))) before
    at (inr (inr more)) =
        by false true false (le-ltb q line (omega (arith, more))) (lt-ltb line q more) (ne_eqb line q (λ s. omega (arith, more, s))) behind

-- of a set with a line, and without it
pub has_with : (lines : List ℕ) (line q : ℕ) → has_line (with_line lines line) q ≡ (nat_eq line q || has_line lines q)
has_with lines line q =
    has_append (lines_before lines line) (line ∷ lines_behind lines line) q
    ∙ (λ i. has_filter (λ x. nat_lt x line) lines q i || (nat_eq line q || has_filter (λ x. nat_lt line x) lines q i))
    ∙ by_place (λ b c e. ((has_line lines q && b) || (e || (has_line lines q && c))) ≡ (e || has_line lines q)) q line
    (here (has_line lines q)) (before (has_line lines q)) (behind (has_line lines q))
  where
    here : (b : Bool) → ((b && false) || (true || (b && false))) ≡ (true || b)
    here true = refl
    here false = refl

    before : (b : Bool) → ((b && true) || (false || (b && false))) ≡ (false || b)
    before true = refl
    before false = refl

    behind : (b : Bool) → ((b && false) || (false || (b && true))) ≡ (false || b)
    behind true = refl
    behind false = refl

pub has_without : (lines : List ℕ) (line q : ℕ) → has_line (without_line lines line) q ≡ (has_line lines q && not (nat_eq line q))
has_without lines line q =
    has_append (lines_before lines line) (lines_behind lines line) q
    ∙ (λ i. has_filter (λ x. nat_lt x line) lines q i || has_filter (λ x. nat_lt line x) lines q i)
    ∙ by_place (λ b c e. ((has_line lines q && b) || (has_line lines q && c)) ≡ (has_line lines q && not e)) q line
    (at (has_line lines q)).0 (at (has_line lines q)).1 (at (has_line lines q)).2
  where
    at : (b : Bool)
        → (((b && false) || (b && false)) ≡ (b && not true)) × (((b && true) || (b && false)) ≡ (b && not false))
        × (((b && false) || (b && true)) ≡ (b && not false))
    at true = (refl, refl, refl)
    at false = (refl, refl, refl)

-- of the lines from one to below another one
pub has_between : (first end q : ℕ) → first ≤ end → has_line (lines_between first end) q ≡ is_between first end q
has_between first end q le = let e : first + (end - first) ≡ end = omega (arith, le) in has_range first (end - first) q ∙ ap (λ n. is_between first n q) e

-- of one of two sets
pub has_with_lines : (a b : List ℕ) (q : ℕ) → AreLines a → AreLines b → has_line (with_lines a b) q ≡ (has_line a q || has_line b q)
has_with_lines a b q one other =
    has_below (λ line. has_line a line || has_line b line) PAGE_LINES q ∙ at (has_line a q) refl (has_line b q) refl
  where
    in_page : q < PAGE_LINES → (b : Bool) → (nat_lt q PAGE_LINES && b) ≡ b
    in_page lt b = λ i. lt-ltb q PAGE_LINES lt i && b

    at : (x : Bool) → has_line a q ≡ x → (y : Bool) → has_line b q ≡ y → (nat_lt q PAGE_LINES && (x || y)) ≡ (x || y)
    at true is y e = in_page (one.inside q is) true
    at false e true is = in_page (other.inside q is) true
    at false e false f = and_false (nat_lt q PAGE_LINES)

-- What a test makes of a set, at a line.

pub before_where : (t : ℕ → Bool) (line : ℕ) → line ≤ PAGE_LINES → lines_before (lines_where t) line ≡ below t line
before_where t line le = below_filter (λ x. nat_lt x line) t PAGE_LINES ∙ below_cut t line PAGE_LINES le

pub where_at : (t : ℕ → Bool) (line : ℕ) → line < PAGE_LINES
    → lines_where t ≡ lines_before (lines_where t) line ++ (cond (t line) (line ∷ []) [] ++ lines_behind (lines_where t) line)
where_at t line lt =
    below_split t line PAGE_LINES lt
    ∙ (λ i. sym (before_where t line (omega (arith, lt))) i
    ++ (cond (t line) (line ∷ []) [] ++ sym (below_filter (λ x. nat_lt line x) t PAGE_LINES) i))

pub where_with : (t : ℕ → Bool) (line : ℕ) → line < PAGE_LINES → lines_where (λ i. nat_eq line i || t i) ≡ with_line (lines_where t) line
where_with t line lt =
    let u : ℕ → Bool = λ i. nat_eq line i || t i in
    below_split u line PAGE_LINES lt
    ∙ (λ i. before i ++ (cond (eq-eqb line line refl i || t line) (line ∷ []) [] ++ behind i))
  where
    before : below (λ i. nat_eq line i || t i) line ≡ lines_before (lines_where t) line
    before =
        below_same (λ i. nat_eq line i || t i) t line (λ i less. λ j. ne_eqb line i (λ s. omega (arith, less, s)) j || t i)
        ∙ sym (before_where t line (omega (arith, lt)))

    at : (i : ℕ) (e b : Bool) → nat_eq line i ≡ e → nat_lt line i ≡ b → ((e || t i) && b) ≡ (t i && b)
    at i true true s h = absurd (omega (arith, eqb-true line i s, ltb-true line i h))
    at i true false s h = sym (and_false (t i))
    at i false b s h = refl

    behind : below (λ i. (nat_eq line i || t i) && nat_lt line i) PAGE_LINES ≡ lines_behind (lines_where t) line
    behind =
        below_same _ (λ i. t i && nat_lt line i) PAGE_LINES (λ i less. at i (nat_eq line i) (nat_lt line i) refl refl)
        ∙ sym (below_filter (λ x. nat_lt line x) t PAGE_LINES)

pub where_without : (t : ℕ → Bool) (line : ℕ) → line < PAGE_LINES
    → lines_where (λ i. t i && not (nat_eq line i)) ≡ without_line (lines_where t) line
where_without t line lt =
    let u : ℕ → Bool = λ i. t i && not (nat_eq line i) in
    below_split u line PAGE_LINES lt
    ∙ (λ i. before i ++ (cond (gone i) (line ∷ []) [] ++ behind i))
  where
    gone : (t line && not (nat_eq line line)) ≡ false
    gone = (λ i. t line && not (eq-eqb line line refl i)) ∙ and_false (t line)

    before : below (λ i. t i && not (nat_eq line i)) line ≡ lines_before (lines_where t) line
    before =
        below_same (λ i. t i && not (nat_eq line i)) t line
        (λ i less. (λ j. t i && not (ne_eqb line i (λ s. omega (arith, less, s)) j)) ∙ and_true (t i))
        ∙ sym (before_where t line (omega (arith, lt)))

    at : (i : ℕ) (x e b : Bool) → nat_eq line i ≡ e → nat_lt line i ≡ b → ((x && not e) && b) ≡ (x && b)
    at i x true true s h = absurd (omega (arith, eqb-true line i s, ltb-true line i h))
    at i x true false s h = and_false (x && false) ∙ sym (and_false x)
    at i true false b s h = refl
    at i false false b s h = refl

    behind : below (λ i. (t i && not (nat_eq line i)) && nat_lt line i) PAGE_LINES ≡ lines_behind (lines_where t) line
    behind =
        below_same _ (λ i. t i && nat_lt line i) PAGE_LINES (λ i less. at i (t i) (nat_eq line i) (nat_lt line i) refl refl)
        ∙ sym (below_filter (λ x. nat_lt line x) t PAGE_LINES)

-- A set at a line: those before it, itself where it is a member, those behind it.

pub lines_at : (lines : List ℕ) (line : ℕ) → AreLines lines → line < PAGE_LINES
    → lines ≡ lines_before lines line ++ (cond (has_line lines line) (line ∷ []) [] ++ lines_behind lines line)
lines_at lines line are lt =
    subst (λ xs. xs ≡ lines_before xs line ++ (cond (has_line lines line) (line ∷ []) [] ++ lines_behind xs line)) (sym (is_where lines are))
    (where_at (has_line lines) line lt)

-- what calls make of sets are sets
pub are_with : (lines : List ℕ) (line : ℕ) → AreLines lines → line < PAGE_LINES → AreLines (with_line lines line)
are_with lines line are lt =
    subst AreLines (where_with (has_line lines) line lt ∙ ap (λ xs. with_line xs line) (sym (is_where lines are)))
    (are_where (λ i. nat_eq line i || has_line lines i))

-- Counts.

length_at : (before : List ℕ) (b : Bool) (line : ℕ) (behind : List ℕ)
    → length (before ++ (cond b (line ∷ []) [] ++ behind)) ≡ length before + cond b 1 0 + length behind
length_at before true line behind = omega (arith, length-append before (line ∷ behind))
length_at before false line behind = omega (arith, length-append before behind)

-- how many there are with a line, and without it
pub count_with : (lines : List ℕ) (line : ℕ) → AreLines lines → line < PAGE_LINES
    → length (with_line lines line) ≡ length lines + cond (has_line lines line) 0 1
count_with lines line are lt = at (has_line lines line) (ap length (lines_at lines line are lt))
  where
    at : (b : Bool) → length lines ≡ length (lines_before lines line ++ (cond b (line ∷ []) [] ++ lines_behind lines line))
        → length (with_line lines line) ≡ length lines + cond b 0 1
    at true h = omega (arith, h)
    at false h =
        let one = length_at (lines_before lines line) true line (lines_behind lines line) in
        let none = length_at (lines_before lines line) false line (lines_behind lines line) in
        omega (arith, h, one, none)

pub count_without : (lines : List ℕ) (line : ℕ) → AreLines lines → line < PAGE_LINES
    → length (without_line lines line) + cond (has_line lines line) 1 0 ≡ length lines
count_without lines line are lt = at (has_line lines line) (ap length (lines_at lines line are lt))
  where
    at : (b : Bool) → length lines ≡ length (lines_before lines line ++ (cond b (line ∷ []) [] ++ lines_behind lines line))
        → length (without_line lines line) + cond b 1 0 ≡ length lines
    at true h =
        let one = length_at (lines_before lines line) true line (lines_behind lines line) in
        let none = length_at (lines_before lines line) false line (lines_behind lines line) in
        omega (arith, h, one, none)
    at false h = omega (arith, h)

-- With a line that is there, and without one that isn't, a set is as before; one undoes the other.

pub with_there : (lines : List ℕ) (line : ℕ) → AreLines lines → line < PAGE_LINES → has_line lines line ≡ true
    → with_line lines line ≡ lines
with_there lines line are lt is =
    sym (lines_at lines line are lt ∙ ap (λ (b : Bool). lines_before lines line ++ (cond b (line ∷ []) [] ++ lines_behind lines line)) is)

pub without_absent : (lines : List ℕ) (line : ℕ) → AreLines lines → line < PAGE_LINES → has_line lines line ≡ false
    → without_line lines line ≡ lines
without_absent lines line are lt is =
    sym (lines_at lines line are lt ∙ ap (λ (b : Bool). lines_before lines line ++ (cond b (line ∷ []) [] ++ lines_behind lines line)) is)

-- Ranks: how many members stand before a line.

-- Members one after the other: those in front of a member are below it, and those behind it above.

pub rise_front : (from : ℕ) (front : List ℕ) (line : ℕ) (rest : List ℕ) (end : ℕ) → Rise from (front ++ line ∷ rest) end
    → Rise from front line × Rise (line + 1) rest end
rise_front from [] line rest end h = h
rise_front from (x ∷ xs) line rest end h = let r = rise_front (x + 1) xs line rest end h.1 in ((h.0, r.0), r.1)

all_before : (from : ℕ) (xs : List ℕ) (line : ℕ) → Rise from xs line → lines_before xs line ≡ xs
all_before from [] line h = refl
all_before from (x ∷ xs) line h =
    let rest = all_before (x + 1) xs line h.1 in
    λ i. cond (lt-ltb x line (omega (arith, rise_bounds (x + 1) xs line h.1)) i) (x ∷ rest i) (rest i)

none_behind : (from : ℕ) (xs : List ℕ) (line : ℕ) → Rise from xs line → lines_behind xs line ≡ []
none_behind from [] line h = refl
none_behind from (x ∷ xs) line h =
    let rest = none_behind (x + 1) xs line h.1 in
    λ i. cond (le-ltb line x (omega (arith, rise_bounds (x + 1) xs line h.1)) i) (x ∷ rest i) (rest i)

none_before : (from : ℕ) (xs : List ℕ) (end line : ℕ) → line ≤ from → Rise from xs end → lines_before xs line ≡ []
none_before from [] end line le h = refl
none_before from (x ∷ xs) end line le h =
    let rest = none_before (x + 1) xs end line (omega (arith, le, h.0)) h.1 in
    λ i. cond (le-ltb x line (omega (arith, le, h.0)) i) (x ∷ rest i) (rest i)

-- so its rank is its place
pub before_next : (front : List ℕ) (line : ℕ) (rest : List ℕ) → AreLines (front ++ line ∷ rest)
    → lines_before (front ++ line ∷ rest) line ≡ front
before_next front line rest are =
    let parts = rise_front 0 front line rest PAGE_LINES are.rise in
    let here = all_before 0 front line parts.0 in
    let behind = none_before (line + 1) rest PAGE_LINES line (omega arith) parts.1 in
    filter-append (λ x. nat_lt x line) front (line ∷ rest)
    ∙ (λ i. here i ++ cond (le-ltb line line (omega arith) i) (line ∷ behind i) (behind i)) ∙ append-nil front

pub rank_of_next : (front : List ℕ) (line : ℕ) (rest : List ℕ) → AreLines (front ++ line ∷ rest)
    → rank_of (front ++ line ∷ rest) line ≡ length front
rank_of_next front line rest are = ap length (before_next front line rest are)

-- it is a member, and a line
pub has_next : (front : List ℕ) (line : ℕ) (rest : List ℕ) → has_line (front ++ line ∷ rest) line ≡ true
has_next front line rest =
    has_append front (line ∷ rest) line ∙ (λ i. has_line front line || (eq-eqb line line refl i || has_line rest line))
    ∙ or_true (has_line front line)

pub next_inside : (front : List ℕ) (line : ℕ) (rest : List ℕ) → AreLines (front ++ line ∷ rest) → line < PAGE_LINES
next_inside front line rest are = are.inside line (has_next front line rest)

-- those in front of it are a set, which lacks it, and to which it is added at the end
rise_prefix : (from : ℕ) (xs ys : List ℕ) (end : ℕ) → Rise from (xs ++ ys) end → Rise from xs end
rise_prefix from [] ys end h = omega (arith, rise_bounds from ys end h)
rise_prefix from (x ∷ xs) ys end h = (h.0, rise_prefix (x + 1) xs ys end h.1)

pub are_front : (front rest : List ℕ) → AreLines (front ++ rest) → AreLines front
are_front front rest are = are_rise front (rise_prefix 0 front rest PAGE_LINES are.rise)

pub front_lacks : (front : List ℕ) (line : ℕ) (rest : List ℕ) → AreLines (front ++ line ∷ rest) → has_line front line ≡ false
front_lacks front line rest are = at (has_line front line) refl
  where
    at : (b : Bool) → has_line front line ≡ b → b ≡ false
    at true is = absurd (omega (arith, rise_inside 0 front line line (rise_front 0 front line rest PAGE_LINES are.rise).0 is))
    at false is = refl

pub with_next : (front : List ℕ) (line : ℕ) (rest : List ℕ) → AreLines (front ++ line ∷ rest) → with_line front line ≡ front ++ line ∷ []
with_next front line rest are =
    let h = (rise_front 0 front line rest PAGE_LINES are.rise).0 in
    λ i. all_before 0 front line h i ++ line ∷ none_behind 0 front line h i

-- Nothing more than a set.
