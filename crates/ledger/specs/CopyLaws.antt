use Rattle.std.specs.Prelude.{◌≡◌, ℕ, ◌+◌, ◌==◌, Bool, true, false, not, ◌&&◌, ◌||◌, nat_eq, List, [], ◌∷◌, ◌++◌, length, refl}
use Rattle.std.proofs.Common.{sym, ap, ◌∙◌, arith}
use Rattle.std.proofs.lemmas.Bool.Decides.{nat_tests}
use Rattle.std.proofs.lemmas.List.Folds.{list_any-append}
use Rattle.std.proofs.lemmas.List.Sums.{sum_by-cons}
use Rattle.std.specs.List.{list_any, sum_by}
use Rattle.std.specs.FinMap.{get, insert, remove, values}
use Rattle.number_maps.specs.Cuts.{cut_at}
use Rattle.number_maps.specs.Values.{HasValue, any_at}
use Rattle.ledger.specs.Ledger.{Holding, Space, Ledger, all_holdings, pages_of}
use Rattle.ledger.specs.Units.{class, units, units_of}
use Rattle.ledger.specs.PlaceLaws.{holdings_in, in_spaces, out_of_spaces, page_is, pages_kept}
use Rattle.ledger.specs.UnitLaws.{frame_for, have, unused_in, units_more}
use Rattle.ledger.specs.AloneLaws.{any_page, not_true}

-- The units of a ledger with a space put in.

-- the units of pages' own lines alone
unfoldable pub class_sum : List Holding → ℕ
class_sum pages = sum_by (λ holding. class (length holding.own)) pages

or_false : (a b : Bool) → (a || b) ≡ false → (a ≡ false) × (b ≡ false)
or_false true b h = cc
or_false false b h = (refl, h)

no_frame : (n c : ℕ) → n + (frame_for false + c) ≡ n + c
unfolding frame_for
no_frame n c = omega arith

still_used : (front back ys : List Holding) (origin : ℕ) → unused_in (front ++ back) origin ≡ false → unused_in (front ++ (ys ++ back)) origin ≡ false
still_used front back ys origin h =
    at (nat_eq origin 0) (have front origin) (have ys origin) (have back origin)
    (ap (λ b. not (origin == 0) && not b) (sym (list_any-append (λ (x : Holding). x.origin == origin) front back)) ∙ h)
    (ap (λ b. not (origin == 0) && not b)
    (list_any-append (λ (x : Holding). x.origin == origin) front (ys ++ back) ∙ ap (λ b. have front origin || b) (list_any-append (λ (x : Holding). x.origin == origin) ys back)))
  where
    at : (z f y b : Bool) → (not z && not (f || b)) ≡ false → unused_in (front ++ (ys ++ back)) origin ≡ (not z && not (f || (y || b))) → unused_in (front ++ (ys ++ back)) origin ≡ false
    at true f y b h e = e
    at false true y b h e = e
    at false false true b h e = e
    at false false false true h e = e
    at false false false false h e = cc

-- pages among others that have their origins need no frame
frames_there : (front back ys : List Holding) → list_any (λ (y : Holding). unused_in (front ++ back) y.origin) ys ≡ false
    → units_of (front ++ (ys ++ back)) ≡ units_of (front ++ back) + class_sum ys
unfolding class_sum
frames_there front back [] used = omega arith
frames_there front back (y ∷ ys) used =
    let parts = or_false (unused_in (front ++ back) y.origin) _ used in
    let rest : units_of (front ++ (ys ++ back)) ≡ units_of (front ++ back) + sum_by (λ holding. class (length holding.own)) ys = frames_there front back ys parts.1 in
    let one : units_of (front ++ (y ∷ (ys ++ back))) ≡ units_of (front ++ (ys ++ back)) + class (length y.own) =
    units_more front (ys ++ back) y ∙ ap (λ b. units_of (front ++ (ys ++ back)) + (frame_for b + class (length y.own))) (still_used front back ys y.origin parts.0) ∙ no_frame _ _ in
    let sums : sum_by (λ (holding : Holding). class (length holding.own)) (y ∷ ys) ≡ class (length y.own) + sum_by (λ (holding : Holding). class (length holding.own)) ys =
    sum_by-cons (λ (holding : Holding). class (length holding.own)) y ys in
    omega (arith, rest, one, sums)

-- a space put in, whose pages have origin 0 or those of other spaces' pages
pub units_space : (ledger : Ledger) (space : ℕ) (pages : Space)
    → list_any (λ (y : Holding). unused_in (all_holdings (remove ledger space)) y.origin) (values pages) ≡ false
    → units (insert ledger space pages) ≡ units (remove ledger space) + class_sum (values pages)
unfolding units
units_space ledger space pages used =
    let cut = cut_at ledger space in
    ap units_of (in_spaces ledger space cut pages)
    ∙ frames_there (holdings_in cut.front) (holdings_in cut.back) (values pages)
    (ap (λ (l : List Holding). list_any (λ (y : Holding). unused_in l y.origin) (values pages)) (sym (out_of_spaces ledger space cut)) ∙ used)
    ∙ ap (λ (l : List Holding). units_of l + class_sum (values pages)) (sym (out_of_spaces ledger space cut))

-- a space with the pages of another
pub units_copied : (ledger : Ledger) (from to : ℕ) → (from ≡ to → ⊥)
    → units (insert ledger to (pages_of ledger from)) ≡ units (remove ledger to) + class_sum (values (pages_of ledger from))
units_copied ledger from to differs =
    units_space ledger to (pages_of ledger from) (not_true _ (λ some.
    let found : HasValue (pages_of ledger from) (λ y. unused_in (all_holdings (remove ledger to)) y.origin) = any_at (λ y. unused_in (all_holdings (remove ledger to)) y.origin) (pages_of ledger from) some in
    let had : have (all_holdings (remove ledger to)) found.value.origin ≡ true =
    any_page (λ (y : Holding). y.origin == found.value.origin) (remove ledger to) from found.key found.value
    (page_is (remove ledger to) from found.key ∙ ap (λ (m : Space). get m found.key) (pages_kept ledger to from differs) ∙ found.there) (itself found.value.origin) in
    unused_had (nat_eq found.value.origin 0) (have (all_holdings (remove ledger to)) found.value.origin) had found.passes))
  where
    itself : (n : ℕ) → nat_eq n n ≡ true
    itself n = grind (arith, nat_tests)

    unused_had : (z h : Bool) → h ≡ true → (not z && not h) ≡ true → ⊥
    unused_had true h e p = cc
    unused_had false true e p = cc
    unused_had false false e p = cc
