use Rattle.std.specs.Prelude.{◌≡◌, ℕ, ◌+◌, ◌-◌, ◌*◌, ◌==◌, Bool, true, false, cond, not, ◌&&◌, ◌||◌, nat_eq, List, [], ◌∷◌, ◌++◌, map, length, Option, Some, refl}
use Rattle.std.proofs.Common.{sym, ap, ◌∙◌, arith}
use Rattle.std.proofs.lemmas.Bool.Decides.{nat_tests}
use Rattle.std.proofs.lemmas.List.Folds.{list_any-append}
use Rattle.std.proofs.lemmas.List.Sums.{sum_by-append, sum_by-cons}
use Rattle.std.specs.List.{list_any, sum_by}
use Rattle.std.specs.Option.{option_map_or}
use Rattle.std.specs.Ordering.{nat_cmp}
use Rattle.std.specs.Cmp.{nat_cmp_total, unsigned_tied}
use Rattle.std.specs.FinSet.{contains, contains-from_list_nat, contains-insert, contains-remove, from_list, insert, len, len-insert, nat_cmp-IsAntisymmetric, same_set, contains-empty, empty as set_empty, len-empty, len-remove}
use Rattle.sizes.specs.declared.TheConstants.{FRAME_UNITS}
use Rattle.ledger.specs.Ledger.{Holding, Ledger, all_holdings, has_origin, is_alone, is_unused, holding_at, with_page, without_page}
use Rattle.ledger.specs.Units.{class, origins, own_lines, tally, units, units_of}
use Rattle.ledger.specs.PlaceLaws.{page_cut, put_again}

-- How the units change with one page.

-- whether one of the pages has an origin
abbrev pub have : List Holding → ℕ → Bool
have pages origin = list_any (λ (holding : Holding). holding.origin == origin) pages

-- the frame that an origin needs beside those of other pages
unfoldable pub frame_for : Bool → ℕ
frame_for unused = cond unused FRAME_UNITS 0

abbrev pub unused_in : List Holding → ℕ → Bool
unused_in pages origin = not (origin == 0) && not (have pages origin)

have_map : (pages : List Holding) (q : ℕ) → list_any (λ y. nat_eq y q) (map (λ (holding : Holding). holding.origin) pages) ≡ have pages q
have_map [] q = refl
have_map (x ∷ pages) q = ap (λ b. nat_eq x.origin q || b) (have_map pages q)

pub has_origins : (pages : List Holding) (q : ℕ) → contains (origins pages) q ≡ (not (q == 0) && have pages q)
unfolding origins
has_origins pages q =
    contains-remove nat_cmp_total _ 0 q
    ∙ ap (λ b. not b && contains (from_list {R = nat_cmp} (map (λ (holding : Holding). holding.origin) pages)) q) (unsigned_tied q 0)
    ∙ ap (λ b. not (q == 0) && b) (contains-from_list_nat _ q ∙ have_map pages q)

nat_eq_sym : (a b : ℕ) → nat_eq a b ≡ nat_eq b a
nat_eq_sym a b = grind (arith, nat_tests)

have_more : (front back : List Holding) (x : Holding) (q : ℕ) → have (front ++ (x ∷ back)) q ≡ (nat_eq q x.origin || have (front ++ back) q)
have_more front back x q =
    list_any-append _ front (x ∷ back)
    ∙ swap (have front q) (nat_eq x.origin q) (have back q)
    ∙ ap (λ b. b || (have front q || have back q)) (nat_eq_sym x.origin q)
    ∙ ap (λ b. nat_eq q x.origin || b) (sym (list_any-append _ front back))
  where
    swap : (a b c : Bool) → (a || (b || c)) ≡ (b || (a || c))
    swap true true c = refl
    swap true false c = refl
    swap false b c = refl

-- the different origins with one page more
origins_zero : (front back : List Holding) (x : Holding) → nat_eq x.origin 0 ≡ true → origins (front ++ (x ∷ back)) ≡ origins (front ++ back)
origins_zero front back x is = same_set nat_cmp_total nat_cmp-IsAntisymmetric _ _ (λ q.
    has_origins (front ++ (x ∷ back)) q ∙ ap (λ b. not (q == 0) && b) (have_more front back x q) ∙ at q (nat_eq q 0) refl (nat_eq q x.origin) refl
    ∙ sym (has_origins (front ++ back) q))
  where
    at : (q : ℕ) (b : Bool) → nat_eq q 0 ≡ b → (c : Bool) → nat_eq q x.origin ≡ c → (not b && (c || have (front ++ back) q)) ≡ (not b && have (front ++ back) q)
    at q true e c h = refl
    at q false e false h = refl
    at q false e true h = grind (arith, nat_tests)

origins_more : (front back : List Holding) (x : Holding) → nat_eq x.origin 0 ≡ false → origins (front ++ (x ∷ back)) ≡ insert (origins (front ++ back)) x.origin
origins_more front back x isnt = same_set nat_cmp_total nat_cmp-IsAntisymmetric _ _ (λ q.
    has_origins (front ++ (x ∷ back)) q ∙ ap (λ b. not (q == 0) && b) (have_more front back x q) ∙ at q (nat_eq q 0) refl (nat_eq q x.origin) refl
    ∙ ap (λ b. nat_eq q x.origin || b) (sym (has_origins (front ++ back) q))
    ∙ ap (λ b. b || contains (origins (front ++ back)) q) (sym (unsigned_tied q x.origin))
    ∙ sym (contains-insert nat_cmp_total (origins (front ++ back)) x.origin q))
  where
    at : (q : ℕ) (b : Bool) → nat_eq q 0 ≡ b → (c : Bool) → nat_eq q x.origin ≡ c → (not b && (c || have (front ++ back) q)) ≡ (c || (not b && have (front ++ back) q))
    at q true e false h = refl
    at q true e true h = grind (arith, nat_tests)
    at q false e c h = refl

pub count_more : (front back : List Holding) (x : Holding)
    → FRAME_UNITS * len (origins (front ++ (x ∷ back))) ≡ FRAME_UNITS * len (origins (front ++ back)) + frame_for (unused_in (front ++ back) x.origin)
unfolding frame_for
count_more front back x = at (nat_eq x.origin 0) refl
  where
    inner : (c : Bool) (n m : ℕ) → m ≡ cond c n (n + 1) → FRAME_UNITS * m ≡ FRAME_UNITS * n + cond (not c) FRAME_UNITS 0
    inner true n m e = omega (arith, e)
    inner false n m e = omega (arith, e)

    at : (b : Bool) → nat_eq x.origin 0 ≡ b
        → FRAME_UNITS * len (origins (front ++ (x ∷ back))) ≡ FRAME_UNITS * len (origins (front ++ back)) + cond (not b && not (have (front ++ back) x.origin)) FRAME_UNITS 0
    at true e = ap (λ s. FRAME_UNITS * len s) (origins_zero front back x e) ∙ omega arith
    at false e =
        let had : contains (origins (front ++ back)) x.origin ≡ have (front ++ back) x.origin =
        has_origins (front ++ back) x.origin ∙ ap (λ b. not b && have (front ++ back) x.origin) e in
        inner (have (front ++ back) x.origin) _ _ (
        ap len (origins_more front back x e) ∙ len-insert nat_cmp_total (origins (front ++ back)) x.origin
        ∙ ap (λ b. cond b (len (origins (front ++ back))) (len (origins (front ++ back)) + 1)) had)

-- a sum over pages with one more
pub sum_with : (f : Holding → ℕ) (front back : List Holding) (x : Holding) → sum_by f (front ++ (x ∷ back)) ≡ sum_by f (front ++ back) + f x
sum_with f front back x = omega (arith, sum_by-append f front (x ∷ back), sum_by-cons f x back, sum_by-append f front back)

-- one page more among pages
pub units_more : (front back : List Holding) (x : Holding)
    → units_of (front ++ (x ∷ back)) ≡ units_of (front ++ back) + (frame_for (unused_in (front ++ back) x.origin) + class (length x.own))
unfolding units_of
units_more front back x =
    let f : Holding → ℕ = λ holding. class (length holding.own) in
    let classes : sum_by f (front ++ (x ∷ back)) ≡ sum_by f (front ++ back) + f x =
    sum_with f front back x in
    omega (arith, classes, count_more front back x)

pub unused_is : (ledger : Ledger) (origin : ℕ) → is_unused ledger origin ≡ unused_in (all_holdings ledger) origin
unfolding is_unused has_origin
unused_is ledger origin = refl

-- the units with a page put there, from those without one
pub units_put : (ledger : Ledger) (space page : ℕ) (x : Holding)
    → units (with_page ledger space page x)
    ≡ units (without_page ledger space page) + (frame_for (is_unused (without_page ledger space page) x.origin) + class (length x.own))
unfolding units
units_put ledger space page x =
    let cut = page_cut ledger space page in
    ap units_of (cut.put_in x) ∙ units_more cut.front cut.back x
    ∙ ap (λ l. units_of l + (frame_for (unused_in l x.origin) + class (length x.own))) (sym cut.gone)
    ∙ ap (λ b. units_of (all_holdings (without_page ledger space page)) + (frame_for b + class (length x.own))) (sym (unused_is _ x.origin))

-- the own lines with a page put there
pub lines_put : (ledger : Ledger) (space page : ℕ) (x : Holding)
    → own_lines (with_page ledger space page x) ≡ own_lines (without_page ledger space page) + length x.own
unfolding own_lines tally
lines_put ledger space page x =
    let cut = page_cut ledger space page in
    ap (sum_by (λ holding. length holding.own)) (cut.put_in x) ∙ sum_with (λ holding. length holding.own) cut.front cut.back x
    ∙ ap (λ l. sum_by (λ holding. length holding.own) l + length x.own) (sym cut.gone)

pub alone_is : (ledger : Ledger) (space page : ℕ) (x : Holding) → holding_at ledger space page ≡ Some x
    → is_alone ledger space page ≡ is_unused (without_page ledger space page) x.origin
unfolding is_alone
alone_is ledger space page x there =
    ap (λ (o : Option Holding). option_map_or (λ holding. is_unused (without_page ledger space page) holding.origin) o false) there

-- the units of a ledger that has a page there
pub units_at : (ledger : Ledger) (space page : ℕ) (x : Holding) → holding_at ledger space page ≡ Some x
    → units ledger ≡ units (without_page ledger space page) + (frame_for (is_alone ledger space page) + class (length x.own))
units_at ledger space page x there =
    ap units (sym (put_again ledger space page x there)) ∙ units_put ledger space page x
    ∙ ap (λ b. units (without_page ledger space page) + (frame_for b + class (length x.own))) (sym (alone_is ledger space page x there))

pub lines_at : (ledger : Ledger) (space page : ℕ) (x : Holding) → holding_at ledger space page ≡ Some x
    → own_lines ledger ≡ own_lines (without_page ledger space page) + length x.own
lines_at ledger space page x there = ap own_lines (sym (put_again ledger space page x there)) ∙ lines_put ledger space page x

-- other own lines, where the origin stays
pub units_own : (ledger : Ledger) (space page : ℕ) (x y : Holding) → holding_at ledger space page ≡ Some x → y.origin ≡ x.origin
    → units (with_page ledger space page y) + class (length x.own) ≡ units ledger + class (length y.own)
units_own ledger space page x y there same =
    let put = units_put ledger space page y in
    let was = units_at ledger space page x there in
    let alone = alone_is ledger space page x there in
    let here = ap (λ o. frame_for (is_unused (without_page ledger space page) o)) same in
    let alone_frame = ap frame_for alone in
    omega (arith, put, was, here, alone_frame)

-- another origin and other own lines
pub units_changed : (ledger : Ledger) (space page : ℕ) (x y : Holding) → holding_at ledger space page ≡ Some x
    → units (with_page ledger space page y) + (frame_for (is_alone ledger space page) + class (length x.own))
    ≡ units ledger + (frame_for (is_unused (without_page ledger space page) y.origin) + class (length y.own))
units_changed ledger space page x y there =
    omega (arith, units_put ledger space page y, units_at ledger space page x there)

-- a page that wasn't there
pub units_new : (ledger : Ledger) (space page : ℕ) (x : Holding) → without_page ledger space page ≡ ledger
    → units (with_page ledger space page x) ≡ units ledger + (frame_for (is_unused ledger x.origin) + class (length x.own))
units_new ledger space page x absent =
    units_put ledger space page x ∙ ap (λ (l : Ledger). units l + (frame_for (is_unused l x.origin) + class (length x.own))) absent

-- the units where there is no page
pub no_units : units_of [] ≡ FRAME_UNITS
unfolding units_of origins
no_units =
    let gone = len-remove nat_cmp_total (set_empty {R = nat_cmp}) 0 in
    let none = len-empty nat_cmp in
    let has = contains-empty nat_cmp 0 in
    let count = gone ∙ ap (λ (b : Bool). cond b (len (set_empty {R = nat_cmp}) - 1) (len (set_empty {R = nat_cmp}))) has in
    omega (arith, count, none)
