use Rattle.std.specs.Prelude.{◌≡◌, ℕ, zero, suc, ◌+◌, ◌*◌, ◌-◌, ◌==◌, ◌≤◌, ◌<◌, Bool, true, false, cond, not, ◌&&◌, ◌||◌, nat_eq, nat_lt, List, [], ◌∷◌, ◌++◌, length, Option, Some, None, is_some, refl}
use Rattle.std.proofs.Common.{sym, ap, subst, ◌∙◌, arith, mul-add}
use Rattle.std.proofs.lemmas.Bool.Decides.{nat_tests}
use Rattle.std.proofs.lemmas.List.{nil_from_length}
use Rattle.std.proofs.lemmas.List.Sums.{sum_by-append, sum_by-cons}
use Rattle.std.specs.List.{flat_map, sum_by}
use Rattle.std.specs.Ordering.{nat_cmp, eq_by_cmp}
use Rattle.std.specs.Cmp.{nat_cmp_total, unsigned_tied}
use Rattle.std.specs.FinMap.{empty, get, insert, len, len-insert, remove, values}
use Rattle.std.specs.FinSet as set
use Rattle.number_maps.specs.Keys.{get_other, get_same}
use Rattle.number_maps.specs.Cuts.{by_entries, cut_at}
use Rattle.number_maps.specs.Values.{HasValue, any_at, no_values, remove_absent, sum_new}
use Rattle.sizes.specs.declared.TheConstants.{FRAME_UNITS}
use Rattle.ledger.specs.Ledger.{Holding, Space, Ledger, all_holdings, has_origin, holding_at, is_alone, is_unused, pages_of, with_page, without_page}
use Rattle.ledger.specs.Units.{class, origins, overlaid_pages, own_lines, sharers, tally, units, units_of}
use Rattle.ledger.specs.PlaceLaws.{by_place, gone_here, gone_other, holdings_in, in_spaces, out_of_spaces, page_cut, no_page, page_is, pages_absent, pages_beside, pages_put, put_again}
use Rattle.ledger.specs.ClassLaws.{class_le, class_most, class_none, class_one}
use Rattle.ledger.specs.UnitLaws.{alone_is, has_origins, have, sum_with}
use Rattle.ledger.specs.AloneLaws.{HasSuchPage, not_true, page_that}
use Rattle.ledger.specs.AlikeUnits.{pages_less, some_page}

-- Sums over all pages.

-- with a page put at a place
pub tally_put : (f : Holding → ℕ) (ledger : Ledger) (space page : ℕ) (x : Holding)
    → tally f (with_page ledger space page x) ≡ tally f (without_page ledger space page) + f x
unfolding tally
tally_put f ledger space page x =
    let cut = page_cut ledger space page in
    ap (sum_by f) (cut.put_in x) ∙ sum_with f cut.front cut.back x ∙ ap (λ l. sum_by f l + f x) (sym cut.gone)

-- where a page is there
pub tally_at : (f : Holding → ℕ) (ledger : Ledger) (space page : ℕ) (x : Holding) → holding_at ledger space page ≡ Some x
    → tally f ledger ≡ tally f (without_page ledger space page) + f x
tally_at f ledger space page x there = ap (tally f) (sym (put_again ledger space page x there)) ∙ tally_put f ledger space page x

-- with another page in the place of one
pub tally_changed : (f : Holding → ℕ) (ledger : Ledger) (space page : ℕ) (x y : Holding) → holding_at ledger space page ≡ Some x
    → tally f (with_page ledger space page y) + f x ≡ tally f ledger + f y
tally_changed f ledger space page x y there = omega (arith, tally_put f ledger space page y, tally_at f ledger space page x there)

-- of ledgers without a page
pub tally_none : (f : Holding → ℕ) (ledger : Ledger) → all_holdings ledger ≡ [] → tally f ledger ≡ 0
unfolding tally
tally_none f ledger none = ap (sum_by f) none

-- at each page one number is at most another
le_by_pages : (f g : Holding → ℕ) (n : ℕ) (ledger : Ledger) → length (all_holdings ledger) ≡ n
    → ((space page : ℕ) (x : Holding) → holding_at ledger space page ≡ Some x → f x ≤ g x) → tally f ledger ≤ tally g ledger
le_by_pages f g zero ledger is each = let none = tally_none f ledger (nil_from_length (all_holdings ledger) is) in omega (arith, none)
le_by_pages f g (suc n) ledger is each =
    let found : HasSuchPage ledger (λ x. true) = some_page ledger (all_holdings ledger) refl (λ e. let short = ap length e in absurd (omega (arith, short, is))) in
    let s = found.space in
    let p = found.page in
    let less = pages_less ledger s p found.holding found.there in
    let rest = le_by_pages f g n (without_page ledger s p) (omega (arith, less, is)) (λ q r x there. by_place s p q r
    (λ ss pp. let no = ap is_some (sym there ∙ gone_here ledger s p q r ss pp) in cc)
    (λ d. each q r x (sym (gone_other ledger s p q r d) ∙ there))) in
    let here = each s p found.holding found.there in
    omega (arith, tally_at f ledger s p found.holding found.there, tally_at g ledger s p found.holding found.there, rest, here)

pub tally_le : (f g : Holding → ℕ) (ledger : Ledger) → ((space page : ℕ) (x : Holding) → holding_at ledger space page ≡ Some x → f x ≤ g x)
    → tally f ledger ≤ tally g ledger
tally_le f g ledger each = le_by_pages f g (length (all_holdings ledger)) ledger refl each

-- How often an origin is had.

have_counts : (pages : List Holding) (origin : ℕ) → have pages origin ≡ nat_lt 0 (sum_by (λ (x : Holding). cond (x.origin == origin) 1 0) pages)
have_counts [] origin = grind (arith, nat_tests)
have_counts (x ∷ pages) origin =
    at (x.origin == origin) (have_counts pages origin) (sum_by-cons (λ (x : Holding). cond (x.origin == origin) 1 0) x pages)
  where
    count : List Holding → ℕ
    count ps = sum_by (λ (x : Holding). cond (x.origin == origin) 1 0) ps

    at : (b : Bool) → have pages origin ≡ nat_lt 0 (sum_by (λ (x : Holding). cond (x.origin == origin) 1 0) pages)
        → sum_by (λ (x : Holding). cond (x.origin == origin) 1 0) (x ∷ pages) ≡ cond b 1 0 + sum_by (λ (x : Holding). cond (x.origin == origin) 1 0) pages
        → (b || have pages origin) ≡ nat_lt 0 (sum_by (λ (x : Holding). cond (x.origin == origin) 1 0) (x ∷ pages))
    at true rest is = grind (arith, nat_tests)
    at false rest is = rest ∙ ap (nat_lt 0) (let same : sum_by (λ (x : Holding). cond (x.origin == origin) 1 0) pages ≡ sum_by (λ (x : Holding). cond (x.origin == origin) 1 0) (x ∷ pages) = omega (arith, is) in same)

-- some page has an origin exactly where more than none has it
pub had_by_count : (ledger : Ledger) (origin : ℕ) → has_origin ledger origin ≡ nat_lt 0 (sharers ledger origin)
unfolding has_origin sharers tally
had_by_count ledger origin = have_counts (all_holdings ledger) origin

-- a page is alone exactly where its origin isn't 0 and one page has it
pub alone_by_count : (ledger : Ledger) (space page : ℕ) (x : Holding) → holding_at ledger space page ≡ Some x
    → is_alone ledger space page ≡ (not (x.origin == 0) && nat_eq (sharers ledger x.origin) 1)
unfolding is_unused sharers
alone_by_count ledger space page x there =
    alone_is ledger space page x there
    ∙ ap (λ b. not (x.origin == 0) && not b) (had_by_count (without_page ledger space page) x.origin)
    ∙ ap (λ b. not (x.origin == 0) && b) (counted _ _ (tally_at (λ (y : Holding). cond (y.origin == x.origin) 1 0) ledger space page x there) (itself x.origin))
  where
    itself : (n : ℕ) → nat_eq n n ≡ true
    itself n = grind (arith, nat_tests)

    counted : (rest all : ℕ) → all ≡ rest + cond (nat_eq x.origin x.origin) 1 0 → nat_eq x.origin x.origin ≡ true → not (nat_lt 0 rest) ≡ nat_eq all 1
    counted rest all is same =
        let whole : all ≡ rest + 1 = is ∙ ap (λ b. rest + cond b 1 0) same in grind (arith, nat_tests)

-- Bounds.

spread : (k a b : ℕ) → k * (a + b) ≡ k * a + k * b
spread k a b = mul-add k a b

scaled : (k : ℕ) (g : Holding → ℕ) (pages : List Holding) → sum_by (λ x. k * g x) pages ≡ k * sum_by g pages
scaled k g [] = omega arith
scaled k g (x ∷ pages) =
    let rest = scaled k g pages in
    let left = sum_by-cons (λ (x : Holding). k * g x) x pages in
    let right = sum_by-cons g x pages in
    left ∙ ap (λ n. k * g x + n) rest ∙ sym (spread k (g x) (sum_by g pages)) ∙ ap (λ n. k * n) (sym right)

tally_scaled : (k : ℕ) (g : Holding → ℕ) (ledger : Ledger) → tally (λ x. k * g x) ledger ≡ k * tally g ledger
unfolding tally
tally_scaled k g ledger = scaled k g (all_holdings ledger)

-- a number that is 0 where a page has no own lines, and else at most k
own_at_most : (k : ℕ) (f : Holding → ℕ) (ledger : Ledger) → ((space page : ℕ) (x : Holding) → holding_at ledger space page ≡ Some x → f x ≤ k * cond (nat_lt 0 (length x.own)) 1 0)
    → tally f ledger ≤ k * overlaid_pages ledger
unfolding overlaid_pages
own_at_most k f ledger each =
    subst (λ n. tally f ledger ≤ n) (tally_scaled k (λ x. cond (nat_lt 0 (length x.own)) 1 0) ledger) (tally_le f (λ x. k * cond (nat_lt 0 (length x.own)) 1 0) ledger each)

-- the units of own lines, and their number, from the number of pages that have any
pub class_tally : (ledger : Ledger) → tally (λ holding. class (length holding.own)) ledger ≤ 16 * overlaid_pages ledger
class_tally ledger = own_at_most 16 (λ holding. class (length holding.own)) ledger (λ s p x there. by_own (length x.own))
  where
    by_own : (n : ℕ) → class n ≤ 16 * cond (nat_lt 0 n) 1 0
    by_own zero = let none = class_none in omega (arith, none)
    by_own (suc n) = at (nat_lt 0 (suc n)) refl
      where
        at : (b : Bool) → nat_lt 0 (suc n) ≡ b → class (suc n) ≤ 16 * cond b 1 0
        at true e = class_most (suc n)
        at false e = grind (arith, nat_tests)

pub lines_tally : (ledger : Ledger) (most : ℕ) → ((space page : ℕ) (x : Holding) → holding_at ledger space page ≡ Some x → length x.own ≤ most)
    → own_lines ledger ≤ most * overlaid_pages ledger
unfolding own_lines
lines_tally ledger most each = own_at_most most (λ holding. length holding.own) ledger (λ s p x there. by_own (length x.own) (each s p x there))
  where
    by_own : (n : ℕ) → n ≤ most → n ≤ most * cond (nat_lt 0 n) 1 0
    by_own zero le = omega arith
    by_own (suc n) le = at (nat_lt 0 (suc n)) refl
      where
        at : (b : Bool) → nat_lt 0 (suc n) ≡ b → suc n ≤ most * cond b 1 0
        at true e = let one : most * 1 ≡ most = omega arith in omega (arith, le, one)
        at false e = grind (arith, nat_tests)

-- a set of numbers below n has at most n
small_set : (n : ℕ) (s : set.FinSet nat_cmp) → ((q : ℕ) → set.contains s q ≡ true → q < n) → set.len s ≤ n
small_set zero s below =
    let none : s ≡ set.empty = set.same_set nat_cmp_total set.nat_cmp-IsAntisymmetric s set.empty (λ q. not_true (set.contains s q) (λ h. let no = below q h in absurd (omega (arith, no))) ∙ sym (set.contains-empty nat_cmp q)) in
    let is = ap (λ (s : set.FinSet nat_cmp). set.len s) none ∙ set.len-empty nat_cmp in omega (arith, is)
small_set (suc n) s below =
    one_more (set.contains s n) (set.len s) (set.len (set.remove s n)) n (set.len-remove nat_cmp_total s n) (small_set n (set.remove s n) (λ q h.
    let parts = both (eq_by_cmp nat_cmp q n) (set.contains s q) (sym (set.contains-remove nat_cmp_total s n q) ∙ h) in
    let other = sym (unsigned_tied q n) ∙ parts.0 in
    let low = below q parts.1 in grind (arith, nat_tests)))
  where
    both : (a b : Bool) → (not a && b) ≡ true → (a ≡ false) × (b ≡ true)
    both true b h = cc
    both false b h = (refl, h)

    one_more : (b : Bool) (all rest n : ℕ) → rest ≡ cond b (all - 1) all → rest ≤ n → all ≤ suc n
    one_more true all rest n is le = omega (arith, is, le)
    one_more false all rest n is le = omega (arith, is, le)

pub origins_few : (ledger : Ledger) (most : ℕ) → ((space page : ℕ) (x : Holding) → holding_at ledger space page ≡ Some x → x.origin ≤ most)
    → set.len (origins (all_holdings ledger)) ≤ most + 1
origins_few ledger most each = small_set (most + 1) (origins (all_holdings ledger)) (λ q h.
    let parts = both (q == 0) (have (all_holdings ledger) q) (sym (has_origins (all_holdings ledger) q) ∙ h) in
    let found : HasSuchPage ledger (λ holding. holding.origin == q) = page_that ledger (λ holding. holding.origin == q) parts in
    let low = each found.space found.page found.holding found.there in
    let same = found.passes in grind (arith, nat_tests))
  where
    both : (a b : Bool) → (not a && b) ≡ true → b ≡ true
    both true b h = cc
    both false b h = h

class_sum_is : (ledger : Ledger) → sum_by (λ (holding : Holding). class (length holding.own)) (all_holdings ledger) ≡ tally (λ holding. class (length holding.own)) ledger
unfolding tally
class_sum_is ledger = refl

-- the units of a ledger are bounded by its frames and the pages that have own lines
pub units_few : (ledger : Ledger) (most : ℕ) → ((space page : ℕ) (x : Holding) → holding_at ledger space page ≡ Some x → x.origin ≤ most)
    → units ledger ≤ 32 + 16 * most + 16 * overlaid_pages ledger
unfolding units units_of
units_few ledger most each = by_parts _ _ _ (overlaid_pages ledger) (origins_few ledger most each) (class_sum_is ledger) (class_tally ledger)
  where
    by_parts : (frames sum tallied overlaid : ℕ) → frames ≤ most + 1 → sum ≡ tallied → tallied ≤ 16 * overlaid → FRAME_UNITS + FRAME_UNITS * frames + sum ≤ 32 + 16 * most + 16 * overlaid
    by_parts frames sum tallied overlaid a b c = omega (arith, a, b, c)

-- Where no space has an origin twice, it is had at most once a space.

count_in : ℕ → Space → ℕ
count_in origin pages = sum_by (λ (x : Holding). cond (x.origin == origin) 1 0) (values pages)

sharers_space : (ledger : Ledger) (space : ℕ) (pages : Space) (origin : ℕ) → get ledger space ≡ None
    → sharers (insert ledger space pages) origin ≡ sharers ledger origin + count_in origin pages
unfolding sharers tally count_in
sharers_space ledger space pages origin absent =
    let f : Holding → ℕ = λ x. cond (x.origin == origin) 1 0 in
    let cut = cut_at ledger space in
    let front = holdings_in cut.front in
    let back = holdings_in cut.back in
    let whole = ap (sum_by f) (in_spaces ledger space cut pages) ∙ sum_by-append f front (values pages ++ back) in
    let inner = sum_by-append f (values pages) back in
    let rest = ap (λ (l : Ledger). sum_by f (all_holdings l)) (sym (remove_absent ledger space absent)) ∙ ap (sum_by f) (out_of_spaces ledger space cut) ∙ sum_by-append f front back in
    omega (arith, whole, inner, rest)

none_of : (count : ℕ) → nat_lt 0 count ≡ false → count ≡ 0
none_of zero h = refl
none_of (suc n) h = grind (arith, nat_tests)

one_in : (origin : ℕ) (pages : Space) → ((p q : ℕ) (x y : Holding) → get pages p ≡ Some x → get pages q ≡ Some y → x.origin ≡ origin → y.origin ≡ origin → p ≡ q)
    → count_in origin pages ≤ 1
unfolding count_in
one_in origin = by_entries (λ pages. ((p q : ℕ) (x y : Holding) → get pages p ≡ Some x → get pages q ≡ Some y → x.origin ≡ origin → y.origin ≡ origin → p ≡ q) → count_in origin pages ≤ 1)
    (λ apart. let none = ap (sum_by f) (no_values {X = Holding}) in omega (arith, none)) more
  where
    f : Holding → ℕ
    f x = cond (x.origin == origin) 1 0

    more : (m : Space) (k : ℕ) (x : Holding) → get m k ≡ None
        → (((p q : ℕ) (x y : Holding) → get m p ≡ Some x → get m q ≡ Some y → x.origin ≡ origin → y.origin ≡ origin → p ≡ q) → count_in origin m ≤ 1)
        → ((p q : ℕ) (y z : Holding) → get (insert m k x) p ≡ Some y → get (insert m k x) q ≡ Some z → y.origin ≡ origin → z.origin ≡ origin → p ≡ q) → count_in origin (insert m k x) ≤ 1
    more m k x absent rest apart = by_test (x.origin == origin) refl (sum_new f m k x absent)
      where
        differs : (q : ℕ) (y : Holding) → get m q ≡ Some y → q ≡ k → ⊥
        differs q y there same = let no = ap is_some (sym there ∙ ap (get m) same ∙ absent) in cc

        kept : (q : ℕ) (y : Holding) → get m q ≡ Some y → get (insert m k x) q ≡ Some y
        kept q y there = get_other m k q x (differs q y there) ∙ there

        by_test : (b : Bool) → (x.origin == origin) ≡ b → sum_by f (values (insert m k x)) ≡ sum_by f (values m) + cond b 1 0 → sum_by f (values (insert m k x)) ≤ 1
        by_test false e is = let less = rest (λ p q y z at_p at_q. apart p q y z (kept p y at_p) (kept q z at_q)) in omega (arith, is, less)
        by_test true e is =
            let none = none_of (sum_by f (values m)) (not_true _ (λ some.
            let found : HasValue m (λ (y : Holding). y.origin == origin) = any_at (λ (y : Holding). y.origin == origin) m (have_counts (values m) origin ∙ some) in
            let passes = found.passes in
            differs found.key found.value found.there (apart found.key k found.value x (kept found.key found.value found.there) (get_same m k k x refl) (grind (arith, nat_tests)) (grind (arith, nat_tests))))) in
            omega (arith, is, none)

IsApart : Ledger → ℕ → Type 0
IsApart ledger origin = (space page other : ℕ) (x y : Holding) → holding_at ledger space page ≡ Some x → holding_at ledger space other ≡ Some y → x.origin ≡ origin → y.origin ≡ origin → page ≡ other

pub no_holdings : all_holdings empty ≡ []
unfolding all_holdings
no_holdings = ap (flat_map (λ (space : Space). values space)) (no_values {X = Space})

pub sharers_few : (ledger : Ledger) (origin : ℕ)
    → ((space page other : ℕ) (x y : Holding) → holding_at ledger space page ≡ Some x → holding_at ledger space other ≡ Some y → x.origin ≡ origin → y.origin ≡ origin → page ≡ other)
    → sharers ledger origin ≤ len ledger
unfolding IsApart sharers
sharers_few ledger origin = by_entries (λ ledger. IsApart ledger origin → sharers ledger origin ≤ len ledger)
    (λ apart. let none = tally_none (λ (x : Holding). cond (x.origin == origin) 1 0) empty no_holdings in omega (arith, none)) more ledger
  where
    more : (m : Ledger) (k : ℕ) (pages : Space) → get m k ≡ None → (IsApart m origin → sharers m origin ≤ len m) → IsApart (insert m k pages) origin
        → sharers (insert m k pages) origin ≤ len (insert m k pages)
    more m k pages absent rest apart =
        let less = rest (λ s p q x y at_p at_q. apart s p q x y (kept s p x at_p) (kept s q y at_q)) in
        let one = one_in origin pages (λ p q x y at_p at_q. apart k p q x y (inside p x at_p) (inside q y at_q)) in
        let grown = len-insert nat_cmp_total m k pages ∙ ap (λ (o : Option Space). cond (is_some o) (len m) (len m + 1)) absent in
        let both = sharers_space m k pages origin absent in
        omega (arith, less, one, grown, both)
      where
        inside : (p : ℕ) (x : Holding) → get pages p ≡ Some x → holding_at (insert m k pages) k p ≡ Some x
        inside p x at = page_is (insert m k pages) k p ∙ ap (λ (n : Space). get n p) (pages_put m k pages k refl) ∙ at

        kept : (s p : ℕ) (x : Holding) → holding_at m s p ≡ Some x → holding_at (insert m k pages) s p ≡ Some x
        kept s p x at =
            let differs : s ≡ k → ⊥ = λ same. let no = ap is_some (sym at ∙ page_is m s p ∙ ap (λ (n : Space). get n p) (ap (pages_of m) same ∙ pages_absent m k absent) ∙ no_page p) in cc in
            page_is (insert m k pages) s p ∙ ap (λ (n : Space). get n p) (pages_beside m k pages s differs) ∙ sym (page_is m s p) ∙ at

-- a space without a page has no pages
pub empty_holdings : (ledger : Ledger) (space : ℕ) (pages : Space) → pages ≡ empty → all_holdings (insert ledger space pages) ≡ all_holdings (remove ledger space)
empty_holdings ledger space pages none =
    let cut = cut_at ledger space in
    in_spaces ledger space cut pages
    ∙ ap (λ (m : Space). holdings_in cut.front ++ (values m ++ holdings_in cut.back)) none
    ∙ ap (λ (l : List Holding). holdings_in cut.front ++ (l ++ holdings_in cut.back)) (no_values {X = Holding})
    ∙ sym (out_of_spaces ledger space cut)

-- ledgers with the same pages count the same
pub same_tally : (f : Holding → ℕ) (a b : Ledger) → all_holdings a ≡ all_holdings b → tally f a ≡ tally f b
unfolding tally
same_tally f a b same = ap (sum_by f) same

pub same_units : (a b : Ledger) → all_holdings a ≡ all_holdings b → units a ≡ units b
unfolding units
same_units a b same = ap units_of same

pub same_sharers : (a b : Ledger) (origin : ℕ) → all_holdings a ≡ all_holdings b → sharers a origin ≡ sharers b origin
unfolding sharers
same_sharers a b origin same = same_tally (λ x. cond (x.origin == origin) 1 0) a b same

pub same_lines : (a b : Ledger) → all_holdings a ≡ all_holdings b → own_lines a ≡ own_lines b
unfolding own_lines
same_lines a b same = same_tally (λ x. length x.own) a b same

-- the sharers of an origin with a page put, and where one is there
pub sharers_put : (ledger : Ledger) (space page : ℕ) (x : Holding) (origin : ℕ)
    → sharers (with_page ledger space page x) origin ≡ sharers (without_page ledger space page) origin + cond (x.origin == origin) 1 0
unfolding sharers
sharers_put ledger space page x origin = tally_put (λ y. cond (y.origin == origin) 1 0) ledger space page x

pub sharers_at : (ledger : Ledger) (space page : ℕ) (x : Holding) (origin : ℕ) → holding_at ledger space page ≡ Some x
    → sharers ledger origin ≡ sharers (without_page ledger space page) origin + cond (x.origin == origin) 1 0
unfolding sharers
sharers_at ledger space page x origin there = tally_at (λ y. cond (y.origin == origin) 1 0) ledger space page x there

-- each page with own lines takes a unit, beside those of the zero frame
pub overlaid_few : (ledger : Ledger) → overlaid_pages ledger + FRAME_UNITS ≤ units ledger
unfolding units units_of overlaid_pages
overlaid_few ledger = by_parts _ _ _ _ (tally_le (λ x. cond (nat_lt 0 (length x.own)) 1 0) (λ x. class (length x.own)) ledger (λ s p x there. by_own (length x.own))) (class_sum_is ledger)
  where
    by_own : (n : ℕ) → cond (nat_lt 0 n) 1 0 ≤ class n
    by_own n = at (nat_lt 0 n) refl
      where
        at : (b : Bool) → nat_lt 0 n ≡ b → cond b 1 0 ≤ class n
        at false e = omega arith
        at true e = let some : 1 ≤ n = grind (arith, nat_tests) in let le = class_le 1 n some in let one = class_one in omega (arith, le, one)

    by_parts : (overlaid tallied sum frames : ℕ) → overlaid ≤ tallied → sum ≡ tallied → overlaid + FRAME_UNITS ≤ FRAME_UNITS + FRAME_UNITS * frames + sum
    by_parts overlaid tallied sum frames le is = omega (arith, le, is)
